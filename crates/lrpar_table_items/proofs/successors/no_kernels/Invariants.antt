use Rattle.std.proofs.Common.{◌≡◌, ℕ, [], length}
use Rattle.lrpar_table_items.specs.Next.{kernel_rows, kernel_at}
use Rattle.lrpar_table_items.proofs.successors.no_kernels.Given as goal

-- as many kernels as passes of the loop, and none has a core
abbrev pub invariant-loop : goal.invariant-loop
invariant-loop g l =
    (length l.kernels.items ≡ l.counter)
    × ((n : ℕ) → kernel_at (kernel_rows g.StorageT.StorageIndex.index l.kernels.items) n ≡ [])
