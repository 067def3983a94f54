use Rattle.std.proofs.Common.{◌≡◌, ◌<◌, ℕ}
use Rattle.lrpar_table_items.specs.Next.{kernel_at, kernel_rows}
use Rattle.lrpar_table_merge.proofs.distinct.find_twin.Given as goal

-- none of the kernels so far is this one
abbrev pub invariant-loop-earlier : goal.invariant-loop-earlier
invariant-loop-earlier g l =
    let rows = kernel_rows g.StorageT.StorageIndex.index l.kernels in
    (s : ℕ) → s < l.earlier → kernel_at rows s ≡ kernel_at rows l.number → ⊥
