use Rattle.std.proofs.Common.{◌<◌, ◌-◌, ℕ, arith, subst}
use Rattle.lrpar_table_rows.specs.Table.{states_len}
use Rattle.lrpar_table_conditions.specs.Complete.{IsCompleteAt}
use Rattle.lrpar_table_conditions.specs.Completeness.{condition_number, is_among_all}
use Rattle.lrpar_table_conditions.specs.declared.completeness.CompletenessCondition.{CompletenessCondition}
use Rattle.lrpar_table_conditions.proofs.ItemwiseLemmas.{earlier_listed, listed_at}
use Rattle.lrpar_table_conditions.proofs.completeness_test.Completeness.find_first_fault.Goals as goal

pub returns : goal.returns
returns g c =
    let grm = c.args.self.now.grm.now in
    let graph = c.args.self.now.sgraph.now in
    let table = c.args.self.now.stable.now in
    record {
      each = λ condition.
          let listed = is_among_all condition in
          let place = listed.0 in
          let below : place < c.loop-condition.condition-index = omega (arith, listed.1) in
          let Holds : CompletenessCondition → Type 0 = λ v. (s : ℕ) → s < states_len table → IsCompleteAt grm graph table v s in
          subst Holds listed.2 (c.loop-condition.invariant.1 place condition below);
    }

pub returns-in-Some : goal.returns-in-Some
returns-in-Some g c =
    let grm = c.args.self.now.grm.now in
    let graph = c.args.self.now.sgraph.now in
    let table = c.args.self.now.stable.now in
    let k = c.loop-condition.condition-index in
    record {
      conditions = λ earlier lower.
          let below = earlier_listed earlier k _ (omega (arith, c.loop-condition-test.true)) lower in
          let Holds : CompletenessCondition → Type 0 = λ v. (s : ℕ) → s < states_len table → IsCompleteAt grm graph table v s in
          subst Holds (listed_at earlier) (c.loop-condition.invariant.1 (condition_number earlier - 1) earlier below);
      state = c.in-Some.ensures.found;
    }
