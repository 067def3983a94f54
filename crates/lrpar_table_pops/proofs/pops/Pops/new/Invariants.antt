use Rattle.lrpar_table_pops.specs.StoredAll.{AreClosedUnlessMarked, HaveAllWays, HaveSets}
use Rattle.lrpar_table_pops.specs.StoredPops.{ArePopsOf, room_of}
use Rattle.lrpar_table_pops.proofs.pops.Pops.new.Given as goal

-- the exits so far are right, and each state is closed that didn't change, and goes to none that did
abbrev pub invariant-rounds : goal.invariant-rounds
invariant-rounds g l = record {
  pops : ArePopsOf l.checked.grammar l.checked.table l.pops;
  places : HaveAllWays l.checked.grammar l.checked.graph l.checked.table l.pops;
  sets : HaveSets l.checked.grammar l.found;
  settled : AreClosedUnlessMarked l.checked.grammar l.checked.graph l.checked.table l.pops l.changed.items;
}

abbrev pub decreases-rounds : goal.decreases-rounds
decreases-rounds g l = room_of l.pops
