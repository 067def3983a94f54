use Rattle.lrpar_table_pops.proofs.GrowthLemmas.{AreOtherWays}
use Rattle.lrpar_table_pops.proofs.exits.Exits.index_of.Given as goal

-- no exit before the place is this way
abbrev pub invariant-loop-place : goal.invariant-loop-place
invariant-loop-place l = AreOtherWays l.self l.way l.place
