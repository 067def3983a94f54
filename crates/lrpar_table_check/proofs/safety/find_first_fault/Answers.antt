use Rattle.std.proofs.Common.{◌<◌, ℕ, arith, subst}
use Rattle.lrpar_table_rows.specs.Conditions.{is_among_all}
use Rattle.lrpar_table_rows.specs.Safe.{IsSafeAt}
use Rattle.lrpar_table_rows.specs.Table.{states_len}
use Rattle.lrpar_table_rows.specs.declared.condition.SafetyCondition.{SafetyCondition}
use Rattle.lrpar_table_check.proofs.safety.find_first_fault.Goals as goal

pub returns : goal.returns
returns g c =
    let grm = c.args.parts.now.grm.now in
    let graph = c.args.parts.now.sgraph.now in
    let table = c.args.parts.now.stable.now in
    record {
      shape = c.has_shape.ensures.0 c.if-not-has_shape.false;
      each = λ condition.
          let listed = is_among_all condition in
          let place = listed.0 in
          let below : place < c.loop-condition.condition-index = omega (arith, listed.1) in
          let Holds : SafetyCondition → Type 0 = λ v. (s : ℕ) → s < states_len table → IsSafeAt grm graph table v s in
          subst Holds listed.2 (c.loop-condition.invariant place condition below);
    }
