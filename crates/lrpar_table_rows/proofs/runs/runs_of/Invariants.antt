use Rattle.std.proofs.Common.{◌≡◌, length, take}
use Rattle.lrpar_table_rows.specs.Ascending.{HaveSame}
use Rattle.lrpar_table_rows.specs.Runs.{run_items, tokens_of}
use Rattle.lrpar_table_rows.proofs.runs.runs_of.Given as goal

-- the runs so far have the items so far
abbrev pub invariant-loop-item : goal.invariant-loop-item
invariant-loop-item g l =
    (length l.runs.items ≡ length l.cores) × HaveSame (run_items l.cores (tokens_of l.runs.items)) (take l.item-index l.items)
