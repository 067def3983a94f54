use Rattle.std.proofs.Common.{arith, subst, ℕ, Bool, List}
use Rattle.std.specs.Bool.{OnFalse}
use Rattle.std.proofs.lemmas.Bool.{OnFalse_at, OnFalse_from}
use Rattle.lrpar_table_sentences.specs.Reachable.{MarksOn, unmarked}
use Rattle.lrpar_table_sentences.proofs.GrowthLemmas.{pass_grows, pass_stays}
use Rattle.lrpar_table_sentences.proofs.FixLemmas.{index_back}
use Rattle.lrpar_table_sentences.proofs.reachable.mark_all.Goals as goal
use Rattle.lrpar_table_sentences.proofs.reachable.mark_all.Goals.{then-mark_after, else-mark_after}

pub loop-prod-preserved : goal.loop-prod-preserved
loop-prod-preserved g c =
    let index = g.StorageT.StorageIndex.index in
    let done = λ (xs : List Bool) (p : ℕ). MarksOn c.args.grm.now xs p in
    let n = c.loop-prod.prod in
    let at = index_back index c.from_index.result c.unwrap.result n c.from_index.ensures.back c.unwrap.ensures in
    let here = subst (λ p. OnFalse c.mark_after.result (MarksOn c.args.grm.now c.mark_after.new.marks p)) at c.mark_after.ensures.closed in
    elim c.if-mark_after.branch [
      | then-mark_after w ↦
          let both = pass_grows unmarked done c.args.marks.now c.loop-prod.marks c.mark_after.new.marks n c.loop-prod.grown c.mark_after.result c.if-mark_after.grown
          c.loop-prod.invariant.1 c.loop-prod.invariant.2 c.mark_after.ensures.grown c.mark_after.ensures.same here w.if-mark_after.true w.grown-is in
          (c.mark_after.ensures.marks, both.0, both.1)
      | else-mark_after w ↦
          let both = pass_stays unmarked done c.args.marks.now c.loop-prod.marks c.mark_after.new.marks n c.loop-prod.grown c.mark_after.result c.if-mark_after.grown
          c.loop-prod.invariant.1 c.loop-prod.invariant.2 c.mark_after.ensures.grown c.mark_after.ensures.same here w.if-mark_after.false w.grown-is in
          (c.mark_after.ensures.marks, both.0, both.1)
    ]

pub returns-clause-closed : goal.returns-clause-closed
returns-clause-closed g c =
    OnFalse_from c.loop-prod.grown _ (λ h p known.
    (OnFalse_at h c.loop-prod.invariant.2).1 p (let count = c.prods_len-prod-end.ensures.len in omega (arith, known, count, c.loop-prod-test.false)))
