use Rattle.std.proofs.Common.{◌≡◌, ◌∙◌, ◌⊎◌, false, true, Bool, List, arith, inl, inr, refl, slice_index_or, subst}
use Rattle.std.proofs.lemmas.Bool.{OnFalse_at, OnFalse_from}
use Rattle.std.proofs.lemmas.List.{get_or_default}
use Rattle.lrpar_table_rows.proofs.GraphLemmas.{all_cores}
use Rattle.lrpar_table_viable.specs.Marks.{MarksOn, unmarked}
use Rattle.lrpar_table_viable.proofs.CoreLemmas.{core_known}
use Rattle.lrpar_table_viable.proofs.PassLemmas.{pass_more}
use Rattle.lrpar_table_viable.proofs.marks.Viability.mark_all.Goals as goal
use Rattle.lrpar_table_viable.proofs.marks.Viability.mark_all.Goals.{then-mark_after, else-mark_after}

pub loop-pidx-init : goal.loop-pidx-init
loop-pidx-init g c = (c.requires.marks, record { less = tt; same = (refl, λ j low. absurd (omega (arith, low))) })

pub mark_after-requires-clause-core : goal.mark_after-requires-clause-core
mark_after-requires-clause-core g c =
    (core_known g.StorageT.StorageIndex.index c.args.self.now.grm.now c.args.self.now.sgraph.now c.args.self.now.stable.now _ c.cores-pidx-items.result.now
    c.loop-pidx.pidx-index c.loop-pidx-item.result c.requires.sound.shape c.cores-pidx-items.ensures.all c.loop-pidx-test.true c.loop-pidx-item.is).2

pub loop-pidx-preserved : goal.loop-pidx-preserved
loop-pidx-preserved g c =
    let index = g.StorageT.StorageIndex.index in
    let items = c.cores-pidx-items.result.now in
    let i = c.loop-pidx.pidx-index in
    let core = c.loop-pidx-item.result in
    let On : List Bool → _ → Type 0 = λ marks x. MarksOn c.args.self.now.grm.now c.args.self.now.stable.now (index c.args.s.0) marks (index x.0.0) x.1 in
    let new = c.mark_after.new.marks in
    let here = OnFalse_from c.mark_after.result ((d : _) → On new (slice_index_or items i d))
    (λ fell d. subst (On new) (c.loop-pidx-item.is ∙ get_or_default items i core d c.loop-pidx-test.true) (OnFalse_at fell c.mark_after.ensures.closed)) in
    let by : ((c.mark_after.result ≡ true) × (c.if-mark_after.grown ≡ true)) ⊎ ((c.mark_after.result ≡ false) × (c.if-mark_after.grown ≡ c.loop-pidx.grown)) =
    elim c.if-mark_after.branch [
      | then-mark_after w ↦ inl (w.if-mark_after.true, w.grown-is)
      | else-mark_after w ↦ inr (w.if-mark_after.false, w.grown-is)
    ] in (
      c.mark_after.ensures.marks,
      pass_more unmarked (λ marks j. (d : _) → On marks (slice_index_or items j d)) c.args.marks.now c.loop-pidx.marks new i c.loop-pidx.grown
          c.mark_after.result c.if-mark_after.grown c.loop-pidx.invariant.1 c.mark_after.ensures.grown c.mark_after.ensures.same here by,
    )

pub returns-clause-closed : goal.returns-clause-closed
returns-clause-closed g c =
    let index = g.StorageT.StorageIndex.index in
    let On = MarksOn c.args.self.now.grm.now c.args.self.now.stable.now (index c.args.s.0) c.loop-pidx.marks in
    OnFalse_from c.loop-pidx.grown _ (λ fell.
    (all_cores index On c.args.self.now.sgraph.now (index c.args.s.0) c.cores-pidx-items.result.now c.cores-pidx-items.ensures.all).0
    (λ j d low. (OnFalse_at fell c.loop-pidx.invariant.1.same).1 j (omega (arith, low, c.loop-pidx-test.false)) d))
