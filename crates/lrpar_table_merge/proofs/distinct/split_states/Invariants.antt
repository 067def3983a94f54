use Rattle.std.proofs.Common.{◌≡◌}
use Rattle.lrpar_table_items.specs.Next.{kernel_rows}
use Rattle.lrpar_table_merge.specs.Merging.{kernels_of}
use Rattle.lrpar_table_merge.proofs.distinct.split_states.Given as goal

-- the kernels are those of the states so far
abbrev pub invariant-loop-state : goal.invariant-loop-state
invariant-loop-state g l =
    let index = g.StorageT.StorageIndex.index in kernel_rows index l.kernels.items ≡ kernels_of index l.yielded
