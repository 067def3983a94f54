use Rattle.std.proofs.Common.{take}
use Rattle.lrpar_table_stacks.specs.Expected.{tokens_of}
use Rattle.lrpar_table_stacks.specs.Stack.{states_of}
use Rattle.lrpar_table_check.specs.CheckedStacks.{HasStack}
use Rattle.lrpar_table_stops.specs.Runs.{RunsTo}
use Rattle.lrpar_table_stops.proofs.runs.stack_after.Given as goal

-- the tokens so far are fed, and the states form a stack
abbrev pub invariant-feeding : goal.invariant-feeding
invariant-feeding g l =
    let index = g.StorageT.StorageIndex.index in
    RunsTo l.data (take l.count (tokens_of index l.tokens)) (states_of index l.stack.items) × HasStack index l.data l.stack
