use Rattle.lrpar_table_merge.proofs.ClearLemmas.{AreClearedTo}
use Rattle.lrpar_table_merge.proofs.clear.clear_cores.Given as goal

-- the cores so far have no lookaheads
abbrev pub invariant-loop-place : goal.invariant-loop-place
invariant-loop-place g l = AreClearedTo g.StorageT.StorageIndex.index l.initial.kernel l.kernel l.place
