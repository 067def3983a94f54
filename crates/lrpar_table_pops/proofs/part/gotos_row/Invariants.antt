use Rattle.std.proofs.Common.{◌≡◌, map, take}
use Rattle.std.specs.List.{zip}
use Rattle.lrpar_table_rows.specs.PlainRows.{goto_entry}
use Rattle.lrpar_table_pops.proofs.part.gotos_row.Given as goal

-- the gotos so far are the first ones of the state
abbrev pub invariant-rules : goal.invariant-rules
invariant-rules g l =
    let entry = goto_entry g.StorageT.StorageIndex.index in map entry l.row.items ≡ map entry (take l.place (zip l.rules l.nexts))
