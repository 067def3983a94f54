use Rattle.std.proofs.Common.{take}
use Rattle.lrpar_table_rows.specs.PlainItems.{AreCoresOf}
use Rattle.lrpar_table_rows.specs.Runs.{items_of_rows}
use Rattle.lrpar_table_rows.proofs.runs.cores_of_rows.Given as goal

-- the cores so far are those of the rows so far
abbrev pub invariant-loop-row : goal.invariant-loop-row
invariant-loop-row g l = AreCoresOf (items_of_rows (take l.row-index l.rows)) l.cores.items
