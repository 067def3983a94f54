use Rattle.std.proofs.Common.{map}
use Rattle.std.specs.List.{AllZip}
use Rattle.lrpar_table_rows.specs.Ascending.{HaveSame}
use Rattle.lrpar_table_rows.specs.PlainItems.{row_of}
use Rattle.lrpar_table_rows.proofs.graph.item_sets.Given as goal

-- the sets so far have the items of the rows so far
abbrev pub invariant-loop-row : goal.invariant-loop-row
invariant-loop-row g l = AllZip HaveSame l.sets.items (map (row_of g.StorageT.StorageIndex.index) l.yielded)
