use Rattle.lrpar_table_pops.proofs.GrowthLemmas.{AreOtherWays}
use Rattle.lrpar_table_pops.proofs.exits.Exits.tokens_at.Given as goal

-- no exit before the place is this way
abbrev pub invariant-loop-exit : goal.invariant-loop-exit
invariant-loop-exit l = AreOtherWays l.self l.way l.exit-index
