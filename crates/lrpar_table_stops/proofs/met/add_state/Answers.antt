use Rattle.std.proofs.Common.{arith, subst, ℕ, Bool, List}
use Rattle.std.specs.Bool.{OnFalse}
use Rattle.std.proofs.lemmas.Bool.{OnFalse_at, OnFalse_from}
use Rattle.lrpar_table_first.specs.FirstRows.{total_missing}
use Rattle.lrpar_table_sentences.proofs.GrowthLemmas.{pass_grows, pass_stays}
use Rattle.lrpar_table_sentences.proofs.FixLemmas.{index_back}
use Rattle.lrpar_table_stops.specs.Met.{IsLeftAt}
use Rattle.lrpar_table_stops.proofs.met.add_state.Goals as goal
use Rattle.lrpar_table_stops.proofs.met.add_state.Goals.{then-add_at, else-add_at}

pub loop-number-preserved : goal.loop-number-preserved
loop-number-preserved g c =
    let index = g.StorageT.StorageIndex.index in
    let done = λ (xs : List (List Bool)) (n : ℕ). IsLeftAt c.args.stable.now xs (index c.args.state.0) n in
    let n = c.loop-number.number in
    let at = index_back index c.from_index.result c.unwrap.result n c.from_index.ensures.back c.unwrap.ensures in
    let here = subst (λ m. OnFalse c.add_at.result (IsLeftAt c.args.stable.now c.add_at.new.sets (index c.args.state.0) m)) at c.add_at.ensures.closed in
    let right = c.add_at.ensures.right in
    elim c.if-add_at.branch [
      | then-add_at w ↦
          let both = pass_grows total_missing done c.args.sets.now c.loop-number.sets c.add_at.new.sets n c.loop-number.grown c.add_at.result c.if-add_at.grown
          c.loop-number.invariant.1 c.loop-number.invariant.2 c.add_at.ensures.grown c.add_at.ensures.same here w.if-add_at.true w.grown-is in
          (right, both.0, both.1)
      | else-add_at w ↦
          let both = pass_stays total_missing done c.args.sets.now c.loop-number.sets c.add_at.new.sets n c.loop-number.grown c.add_at.result c.if-add_at.grown
          c.loop-number.invariant.1 c.loop-number.invariant.2 c.add_at.ensures.grown c.add_at.ensures.same here w.if-add_at.false w.grown-is in
          (right, both.0, both.1)
    ]

pub returns-clause-closed : goal.returns-clause-closed
returns-clause-closed g c =
    OnFalse_from c.loop-number.grown _ (λ h n known.
    (OnFalse_at h c.loop-number.invariant.2).1 n (let count = c.tokens_len-number-end.ensures.tokens in omega (arith, known, count, c.loop-number-test.false)))
