use Rattle.lrpar_table_merge.specs.Merging.{GoesOn}
use Rattle.lrpar_table_merge.proofs.merge.Merging.merge_kernels.Given as goal

-- no more work is left than at first
abbrev pub invariant-loop-kernel : goal.invariant-loop-kernel
invariant-loop-kernel g l =
    GoesOn g.StorageT.StorageIndex.index l.grm l.max_states g.StorageT.StorageIndex.limit l.initial.self l.self
