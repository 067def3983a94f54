use Rattle.std.proofs.Common.{◌≡◌, [], All, length}
use Rattle.lrpar_table_rows.proofs.runs.no_runs.Given as goal

-- an empty run for each core so far
abbrev pub invariant-loop : goal.invariant-loop
invariant-loop g l = (length l.runs.items ≡ l.index) × All (λ run. run.items ≡ []) l.runs.items
