use Rattle.std.proofs.Common.{◌≡◌, ◌<◌, ℕ, slice_index}
use Rattle.lrpar_table_check.proofs.longest.clear_row.Given as goal

-- the numbers so far are 0
abbrev pub invariant-loop-made : goal.invariant-loop-made
invariant-loop-made l = (t : ℕ) → t < l.made-index → slice_index l.row t ≡ 0
