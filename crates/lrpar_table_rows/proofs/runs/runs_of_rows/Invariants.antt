use Rattle.std.proofs.Common.{◌≡◌, length, take}
use Rattle.lrpar_table_rows.specs.Ascending.{HaveSame}
use Rattle.lrpar_table_rows.specs.Runs.{items_of_rows, run_items, tokens_of}
use Rattle.lrpar_table_rows.proofs.runs.runs_of_rows.Given as goal

-- the runs so far have the items of the rows so far
abbrev pub invariant-loop-row : goal.invariant-loop-row
invariant-loop-row g l =
    (length l.runs.items ≡ length l.cores) × HaveSame (run_items l.cores (tokens_of l.runs.items)) (items_of_rows (take l.row-index l.rows))
