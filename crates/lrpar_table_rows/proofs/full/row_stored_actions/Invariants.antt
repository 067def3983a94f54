use Rattle.std.proofs.Common.{◌≡◌, map, take}
use Rattle.lrpar_table_rows.specs.PlainRows.{action_entry, plain_action}
use Rattle.lrpar_table_rows.specs.Rows.{row_actions}
use Rattle.lrpar_table_rows.proofs.full.row_stored_actions.Given as goal

-- the stored entries are those of the row so far
abbrev pub invariant-loop-number : goal.invariant-loop-number
invariant-loop-number g l =
    map (action_entry g.StorageT.StorageIndex.index) l.stored.items ≡ row_actions (take l.number (map (plain_action g.StorageT.StorageIndex.index) l.row))
