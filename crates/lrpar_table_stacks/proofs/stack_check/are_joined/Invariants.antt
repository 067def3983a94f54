use Rattle.std.proofs.Common.{◌↔◌, ◌<◌, drop}
use Rattle.lrpar_table_stacks.specs.Stack.{AreJoined, states_of}
use Rattle.lrpar_table_rows.specs.Table.{states_len}
use Rattle.lrpar_table_stacks.proofs.stack_check.are_joined.Given as goal

-- the state below is one of the table, and all states are joined if those from it upwards are
abbrev pub invariant-loop-next : goal.invariant-loop-next
invariant-loop-next g l =
    let index = g.StorageT.StorageIndex.index in
    (index l.below.0 < states_len l.table)
    × (AreJoined l.table (index l.below.0) (states_of index (drop l.next-index l.above))
    ↔ AreJoined l.table (index l.fn.bottom.0) (states_of index l.above))
