use Rattle.std.proofs.Common.{◌<◌, ℕ, get_or, map, length}
use Rattle.lrpar_table_items.specs.Cores.{core_set}
use Rattle.lrpar_table_items.specs.Next.{kernel_at}
use Rattle.lrpar_table_merge.specs.Compatible.{AreWeaklyCompatible}
use Rattle.lrpar_table_merge.specs.Merging.{kernels_of}
use Rattle.lrpar_table_merge.proofs.merge.Merging.find.Given as goal

-- none of the states so far is compatible with the kernel
abbrev pub invariant-loop-place : goal.invariant-loop-place
invariant-loop-place g l =
    let index = g.StorageT.StorageIndex.index in
    let kernels = kernels_of index l.self.states.items in
    (k d : ℕ) → k < l.place → get_or l.numbers k d < length kernels
    → AreWeaklyCompatible (kernel_at kernels (get_or l.numbers k d)) (map (core_set index) l.kernel) → ⊥
