use Rattle.std.proofs.Common.{◌≡◌, length}
use Rattle.lrpar_table_pops.specs.Growth.{KeepRoom}
use Rattle.lrpar_table_pops.proofs.SetLemmas.{AreEmptyUpTo}
use Rattle.lrpar_table_pops.proofs.sets.clear_sets.Given as goal

-- the sets before the place are empty
abbrev pub invariant-loop-place : goal.invariant-loop-place
invariant-loop-place l = record {
  long : length l.sets.items ≡ length l.initial.sets.items;
  empty : AreEmptyUpTo l.sets.items l.place;
  room : KeepRoom l.initial.sets.items l.sets.items;
}
