use Rattle.std.proofs.Common.{◌≡◌, map, take}
use Rattle.lrpar_table_rows.specs.PlainRows.{goto_entry, plain_goto}
use Rattle.lrpar_table_rows.specs.Rows.{row_gotos}
use Rattle.lrpar_table_rows.proofs.full.stored_gotos.Given as goal

-- the stored entries are those of the rows so far
abbrev pub invariant-loop-row : goal.invariant-loop-row
invariant-loop-row g l =
    map (λ row. map (goto_entry g.StorageT.StorageIndex.index) row.items) l.stored.items
    ≡ map (λ row. row_gotos (map (plain_goto g.StorageT.StorageIndex.index) row.items)) (take l.row-index l.rows)
