use Rattle.std.proofs.Common.{◌≡◌, map}
use Rattle.lrpar_table_rows.specs.PlainRows.{goto_entry}
use Rattle.lrpar_table_items.specs.StateRows.{goto_rows}
use Rattle.lrpar_table_items.specs.States.{state_of}
use Rattle.lrpar_table_build.proofs.tables.rows_of_gotos.Given as goal

-- the rows of the states so far
abbrev pub invariant-loop-state : goal.invariant-loop-state
invariant-loop-state g l =
    let index = g.StorageT.StorageIndex.index in map (λ row. map (goto_entry index) row.items) l.rows.items ≡ goto_rows (map (state_of index) l.yielded)
