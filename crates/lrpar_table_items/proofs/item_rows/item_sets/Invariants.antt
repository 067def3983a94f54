use Rattle.std.proofs.Common.{map, take}
use Rattle.std.specs.List.{AllZip}
use Rattle.lrpar_table_rows.specs.Ascending.{HaveSame}
use Rattle.lrpar_table_items.specs.StateRows.{item_rows}
use Rattle.lrpar_table_items.specs.States.{state_of}
use Rattle.lrpar_table_items.proofs.item_rows.item_sets.Given as goal

-- the sets so far have the items of the states so far
abbrev pub invariant-loop-state : goal.invariant-loop-state
invariant-loop-state g l = AllZip HaveSame l.sets.items (item_rows l.grm (map (state_of g.StorageT.StorageIndex.index) (take l.state-index l.states)))
