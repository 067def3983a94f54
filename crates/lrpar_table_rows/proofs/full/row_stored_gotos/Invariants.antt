use Rattle.std.proofs.Common.{◌≡◌, map, take}
use Rattle.lrpar_table_rows.specs.PlainRows.{goto_entry, plain_goto}
use Rattle.lrpar_table_rows.specs.Rows.{row_gotos}
use Rattle.lrpar_table_rows.proofs.full.row_stored_gotos.Given as goal

-- the stored entries are those of the row so far
abbrev pub invariant-loop-number : goal.invariant-loop-number
invariant-loop-number g l =
    map (goto_entry g.StorageT.StorageIndex.index) l.stored.items ≡ row_gotos (take l.number (map (plain_goto g.StorageT.StorageIndex.index) l.row))
