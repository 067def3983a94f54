use Rattle.std.proofs.Common.{refl, subst, ℕ}
use Rattle.std.proofs.lemmas.Bool.{OnFalse_at, OnFalse_from}
use Rattle.lrpar_table_pops.specs.StoredAll.{IsMarked}
use Rattle.lrpar_table_pops.proofs.GrowthLemmas.{read_at}
use Rattle.lrpar_table_pops.proofs.MarkLemmas.{shifts_unmarked_more, unmarked, unmarked_more, untouched}
use Rattle.lrpar_table_pops.proofs.saturate.has_changed.Goals as goal

pub loop-action-preserved : goal.loop-action-preserved
loop-action-preserved g c =
    let index = g.StorageT.StorageIndex.index in
    let actions = c.actions_at.result.1.now in
    let place = c.loop-action.action-index in
    shifts_unmarked_more index c.args.changed.now actions place c.action-item.result
    (read_at actions actions place c.action-item.result refl c.loop-action-test.true c.action-item.is) (OnFalse_at c.if-shifts_to_marked.false c.shifts_to_marked.ensures)
    c.loop-action.invariant

pub loop-next-preserved : goal.loop-next-preserved
loop-next-preserved g c =
    let index = g.StorageT.StorageIndex.index in
    let nexts = c.gotos_at.result.1.now in
    let place = c.loop-next.next-index in
    let marks = c.args.changed.now in
    unmarked_more index marks nexts place c.next-item.result (read_at nexts nexts place c.next-item.result refl c.loop-next-test.true c.next-item.is)
    (subst (λ (n : ℕ). ¬ (IsMarked marks n)) c.from.ensures (unmarked marks c.from.result c.is_marked.result c.is_marked.ensures c.if-is_marked.false))
    c.loop-next.invariant

pub returns : goal.returns
returns g c =
    let index = g.StorageT.StorageIndex.index in
    let marks = c.args.changed.now in
    OnFalse_from c.is_marked-2.result _ (λ off.
    untouched index marks c.args.stable.now c.args.state c.actions_at.result.0.now c.actions_at.result.1.now c.gotos_at.result.0.now c.gotos_at.result.1.now
    c.loop-action.action-index c.loop-next.next-index
    (subst (λ (n : ℕ). ¬ (IsMarked marks n)) c.from-2.ensures (unmarked marks c.from-2.result c.is_marked-2.result c.is_marked-2.ensures off)) c.actions_at.ensures.paired
    c.actions_at.ensures.actions c.actions_at.ensures.all c.loop-action-test.false c.loop-action.invariant c.gotos_at.ensures.paired c.gotos_at.ensures.gotos
    c.gotos_at.ensures.all c.loop-next-test.false c.loop-next.invariant)
