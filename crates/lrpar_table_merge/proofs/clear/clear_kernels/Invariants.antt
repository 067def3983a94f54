use Rattle.lrpar_table_merge.proofs.ClearLemmas.{AreKernelsClearedTo}
use Rattle.lrpar_table_merge.proofs.clear.clear_kernels.Given as goal

-- the kernels so far have no item
abbrev pub invariant-loop-state : goal.invariant-loop-state
invariant-loop-state g l = AreKernelsClearedTo g.StorageT.StorageIndex.index l.initial.kernels l.kernels l.state
