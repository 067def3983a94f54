use Rattle.std.proofs.Common.{take}
use Rattle.lrpar_table_levels.specs.Filled.{AreFilled}
use Rattle.lrpar_table_levels.proofs.filled.fill.Given as goal

-- the slots have the entries so far
abbrev pub invariant-loop-entry : goal.invariant-loop-entry
invariant-loop-entry l =
    AreFilled (take l.entry-index l.entries) l.slots
