use Rattle.std.proofs.Common.{◌≡◌, length}
use Rattle.lrpar_table_pops.specs.StoredAll.{AreMarked, KeepsMarks}
use Rattle.lrpar_table_pops.proofs.saturate.mark_all.Given as goal

-- the states so far are marked
abbrev pub invariant-loop-state : goal.invariant-loop-state
invariant-loop-state g l = record {
  len : length l.marks.items ≡ length l.initial.marks.items;
  keeps : KeepsMarks l.initial.marks.items l.marks.items;
  all : AreMarked g.StorageT.StorageIndex.index l.states l.state-index l.marks.items;
}
