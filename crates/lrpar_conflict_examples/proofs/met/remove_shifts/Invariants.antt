use Rattle.std.proofs.Common.{◌≡◌, ◌<◌, ◌||◌, ℕ, length, map, take}
use Rattle.std.specs.List.{list_any}
use Rattle.lrpar_grammar.specs.Tokens.{has}
use Rattle.lrpar_table_first.specs.FirstRows.{row_at, rows_of}
use Rattle.lrpar_table_rows.specs.PlainConflicts.{shift_reduce_of}
use Rattle.lrpar_conflict_examples.specs.Met.{loses_shift_at}
use Rattle.lrpar_conflict_examples.proofs.met.remove_shifts.Given as goal

-- the tokens of the conflicts so far are added
abbrev pub invariant-loop-conflict : goal.invariant-loop-conflict
invariant-loop-conflict g l =
    (map (λ row. length row) (rows_of l.sets) ≡ map (λ row. length row) (rows_of l.initial.sets))
    × ((s t : ℕ) → t < length (row_at (rows_of l.initial.sets) s) → has (row_at (rows_of l.sets) s) t
    ≡ (has (row_at (rows_of l.initial.sets) s) t
    || list_any (loses_shift_at l.precedences s t) (map (shift_reduce_of g.StorageT.StorageIndex.index) (take l.conflict-index l.conflicts))))
