use Rattle.std.proofs.Common.{arith, subst, ℕ, Bool, List}
use Rattle.std.specs.Bool.{OnFalse}
use Rattle.std.proofs.lemmas.Bool.{OnFalse_at, OnFalse_from}
use Rattle.lrpar_table_first.specs.FirstRows.{total_missing}
use Rattle.lrpar_table_sentences.proofs.GrowthLemmas.{pass_grows, pass_stays}
use Rattle.lrpar_table_sentences.proofs.FixLemmas.{index_back}
use Rattle.lrpar_table_stops.specs.Met.{IsReducedOver}
use Rattle.lrpar_table_stops.proofs.met.add_reductions_by.Goals as goal
use Rattle.lrpar_table_stops.proofs.met.add_reductions_by.Goals.{then-add_reductions_over, else-add_reductions_over}

pub loop-number-preserved : goal.loop-number-preserved
loop-number-preserved g c =
    let index = g.StorageT.StorageIndex.index in
    let done = λ (xs : List (List Bool)) (n : ℕ). IsReducedOver c.args.grm.now c.args.stable.now xs (index c.args.prod.0) n in
    let n = c.loop-number.number in
    let at = index_back index c.from_index.result c.unwrap.result n c.from_index.ensures.back c.unwrap.ensures in
    let here = subst (λ m. OnFalse c.add_reductions_over.result (IsReducedOver c.args.grm.now c.args.stable.now c.add_reductions_over.new.sets (index c.args.prod.0) m)) at c.add_reductions_over.ensures.closed in
    let right = c.add_reductions_over.ensures.right in
    elim c.if-add_reductions_over.branch [
      | then-add_reductions_over w ↦
          let both = pass_grows total_missing done c.args.sets.now c.loop-number.sets c.add_reductions_over.new.sets n c.loop-number.grown c.add_reductions_over.result c.if-add_reductions_over.grown
          c.loop-number.invariant.1 c.loop-number.invariant.2 c.add_reductions_over.ensures.grown c.add_reductions_over.ensures.same here w.if-add_reductions_over.true w.grown-is in
          (right, both.0, both.1)
      | else-add_reductions_over w ↦
          let both = pass_stays total_missing done c.args.sets.now c.loop-number.sets c.add_reductions_over.new.sets n c.loop-number.grown c.add_reductions_over.result c.if-add_reductions_over.grown
          c.loop-number.invariant.1 c.loop-number.invariant.2 c.add_reductions_over.ensures.grown c.add_reductions_over.ensures.same here w.if-add_reductions_over.false w.grown-is in
          (right, both.0, both.1)
    ]

pub returns-clause-closed : goal.returns-clause-closed
returns-clause-closed g c =
    OnFalse_from c.loop-number.grown _ (λ h n known.
    (OnFalse_at h c.loop-number.invariant.2).1 n (let count = c.states_len-number-end.ensures.states in omega (arith, known, count, c.loop-number-test.false)))
