use Rattle.std.proofs.Common.{◌≡◌, ◌<◌, [], ℕ, Vec, slice_index_or}
use Rattle.std.specs.declared.alloc.Global.{Global}
use Rattle.lrpar_table_check.proofs.longest.clear_rows.Given as goal

-- the rows so far are empty
abbrev pub invariant-loop-row : goal.invariant-loop-row
invariant-loop-row l = (k : ℕ) (d : Vec ℕ Global) → k < l.row-index → (slice_index_or l.rows k d).items ≡ []
