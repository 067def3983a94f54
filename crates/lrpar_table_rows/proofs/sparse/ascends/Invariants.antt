use Rattle.std.proofs.Common.{ℕ, ◌<◌, ◌+◌, map, slice_index}
use Rattle.lrpar_table_rows.proofs.sparse.ascends.Given as goal

-- the keys so far ascend
abbrev pub invariant-loop-place : goal.invariant-loop-place
invariant-loop-place g l =
    let numbers = map (λ entry. g.K.Key.number entry.0) l.row in (k : ℕ) → k + 1 < l.place → slice_index numbers k < slice_index numbers (k + 1)
