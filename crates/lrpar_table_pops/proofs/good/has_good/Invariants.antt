use Rattle.lrpar_table_pops.proofs.GoodAllLemmas.{AreNotGood}
use Rattle.lrpar_table_pops.proofs.good.has_good.Given as goal

-- no exit before the place is good
abbrev pub invariant-loop-place : goal.invariant-loop-place
invariant-loop-place g l = AreNotGood l.grm l.good l.reduced l.above l.place
