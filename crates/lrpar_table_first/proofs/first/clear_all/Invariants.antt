use Rattle.std.proofs.Common.{◌≡◌, ◌<◌, ℕ, false, length, map}
use Rattle.lrpar_table_first.specs.FirstRows.{row_at, rows_of}
use Rattle.lrpar_grammar.specs.Tokens.{has}
use Rattle.lrpar_table_first.proofs.first.clear_all.Given as goal

-- the sets so far are empty, and each keeps its room
abbrev pub invariant-loop-rule : goal.invariant-loop-rule
invariant-loop-rule l =
    ((r t : ℕ) → r < l.rule → has (row_at (rows_of l.sets) r) t ≡ false)
    × (map (λ row. length row) (rows_of l.sets) ≡ map (λ row. length row) (rows_of l.initial.sets))
