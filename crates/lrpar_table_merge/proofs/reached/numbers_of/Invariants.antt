use Rattle.std.proofs.Common.{◌≤◌}
use Rattle.lrpar_table_merge.proofs.reached.numbers_of.Given as goal

-- no number is greater than its place
abbrev pub invariant-loop-mark : goal.invariant-loop-mark
invariant-loop-mark l = l.next ≤ l.mark-index
