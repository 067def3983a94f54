use Rattle.std.proofs.Common.{arith, subst, ℕ, Bool, List}
use Rattle.std.specs.Bool.{OnFalse}
use Rattle.std.proofs.lemmas.Bool.{OnFalse_at, OnFalse_from}
use Rattle.lrpar_table_first.specs.FirstRows.{total_missing}
use Rattle.lrpar_table_sentences.proofs.GrowthLemmas.{pass_grows, pass_stays}
use Rattle.lrpar_table_sentences.proofs.FixLemmas.{index_back}
use Rattle.lrpar_table_stops.specs.Met.{IsLeft}
use Rattle.lrpar_table_stops.proofs.met.add_states.Goals as goal
use Rattle.lrpar_table_stops.proofs.met.add_states.Goals.{then-add_state, else-add_state}

pub loop-number-preserved : goal.loop-number-preserved
loop-number-preserved g c =
    let index = g.StorageT.StorageIndex.index in
    let done = λ (xs : List (List Bool)) (n : ℕ). IsLeft c.args.stable.now xs n in
    let n = c.loop-number.number in
    let at = index_back index c.from_index.result c.unwrap.result n c.from_index.ensures.back c.unwrap.ensures in
    let here = subst (λ m. OnFalse c.add_state.result (IsLeft c.args.stable.now c.add_state.new.sets m)) at c.add_state.ensures.closed in
    let right = c.add_state.ensures.right in
    elim c.if-add_state.branch [
      | then-add_state w ↦
          let both = pass_grows total_missing done c.args.sets.now c.loop-number.sets c.add_state.new.sets n c.loop-number.grown c.add_state.result c.if-add_state.grown
          c.loop-number.invariant.1 c.loop-number.invariant.2 c.add_state.ensures.grown c.add_state.ensures.same here w.if-add_state.true w.grown-is in
          (right, both.0, both.1)
      | else-add_state w ↦
          let both = pass_stays total_missing done c.args.sets.now c.loop-number.sets c.add_state.new.sets n c.loop-number.grown c.add_state.result c.if-add_state.grown
          c.loop-number.invariant.1 c.loop-number.invariant.2 c.add_state.ensures.grown c.add_state.ensures.same here w.if-add_state.false w.grown-is in
          (right, both.0, both.1)
    ]

pub returns-clause-closed : goal.returns-clause-closed
returns-clause-closed g c =
    OnFalse_from c.loop-number.grown _ (λ h n known.
    (OnFalse_at h c.loop-number.invariant.2).1 n (let count = c.states_len-number-end.ensures.states in omega (arith, known, count, c.loop-number-test.false)))
