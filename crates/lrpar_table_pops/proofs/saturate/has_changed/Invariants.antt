use Rattle.lrpar_table_pops.proofs.MarkLemmas.{AreShiftsUnmarked, AreUnmarked}
use Rattle.lrpar_table_pops.proofs.saturate.has_changed.Given as goal

-- no shift so far leads to a state that changed
abbrev pub invariant-loop-action : goal.invariant-loop-action
invariant-loop-action g l = AreShiftsUnmarked g.StorageT.StorageIndex.index l.actions l.action-index l.changed

-- and no goto
abbrev pub invariant-loop-next : goal.invariant-loop-next
invariant-loop-next g l = AreUnmarked g.StorageT.StorageIndex.index l.nexts l.next-index l.changed
