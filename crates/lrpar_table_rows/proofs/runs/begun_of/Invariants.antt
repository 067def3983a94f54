use Rattle.std.proofs.Common.{take}
use Rattle.lrpar_table_rows.specs.PlainItems.{AreBegunOf}
use Rattle.lrpar_table_rows.proofs.runs.begun_of.Given as goal

-- the cores of kernel items so far are those of the cores so far
abbrev pub invariant-loop-core : goal.invariant-loop-core
invariant-loop-core g l = AreBegunOf (take l.core-index l.cores) l.begun.items
