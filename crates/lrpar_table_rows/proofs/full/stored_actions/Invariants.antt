use Rattle.std.proofs.Common.{◌≡◌, map, take}
use Rattle.lrpar_table_rows.specs.PlainRows.{action_entry, plain_action}
use Rattle.lrpar_table_rows.specs.Rows.{row_actions}
use Rattle.lrpar_table_rows.proofs.full.stored_actions.Given as goal

-- the stored entries are those of the rows so far
abbrev pub invariant-loop-row : goal.invariant-loop-row
invariant-loop-row g l =
    map (λ row. map (action_entry g.StorageT.StorageIndex.index) row.items) l.stored.items
    ≡ map (λ row. row_actions (map (plain_action g.StorageT.StorageIndex.index) row.items)) (take l.row-index l.rows)
