use Rattle.std.proofs.Common.{map, take}
use Rattle.lrpar_table_rows.specs.Ascending.{HaveSame}
use Rattle.lrpar_table_rows.proofs.ItemLemmas.{core_part}
use Rattle.lrpar_table_rows.proofs.runs.cores_of.Given as goal

-- the cores so far are those of the items so far
abbrev pub invariant-loop-item : goal.invariant-loop-item
invariant-loop-item g l = HaveSame l.cores.items (map core_part (take l.item-index l.items))
