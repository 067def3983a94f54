use Rattle.std.proofs.Common.{◌≤◌, length}
use Rattle.lrpar_table_merge.specs.StoredKernels.{KeepCores}
use Rattle.lrpar_table_merge.proofs.reached.marked_kernels.Given as goal

-- the lists so far have cores of the grammar, and are at most as many as the kernels so far
abbrev pub invariant-loop-number : goal.invariant-loop-number
invariant-loop-number g l =
    let index = g.StorageT.StorageIndex.index in KeepCores index l.kernels l.marked.items × (length l.marked.items ≤ l.number)
