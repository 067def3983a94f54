use Rattle.std.proofs.Common.{◌≡◌, length}
use Rattle.lrpar_table_pops.specs.Exits.{HasExit}
use Rattle.lrpar_table_pops.specs.FoundAll.{AreExitsFor}
use Rattle.lrpar_table_pops.specs.Good.{GoesOn}
use Rattle.lrpar_table_pops.specs.Pops.{Control}
use Rattle.lrpar_table_pops.proofs.GoodAllLemmas.{AreWaysGood}
use Rattle.lrpar_table_pops.proofs.good.good_above.Given as goal

-- the exits so far are good, and none is left out of the ways before the place
abbrev pub invariant-loop-place : goal.invariant-loop-place
invariant-loop-place g l = record {
  good : (r : Control) → HasExit l.above r → GoesOn l.checked.grammar l.good l.reduced r;
  places : AreExitsFor l.checked.grammar l.checked.graph (g.StorageT.StorageIndex.index l.fn.next.0) l.above;
  len : length l.above ≡ length l.initial.above;
  all : AreWaysGood l.checked.grammar l.good l.reduced l.above l.place;
}
