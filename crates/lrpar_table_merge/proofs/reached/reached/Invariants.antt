use Rattle.std.proofs.Common.{◌≡◌, length}
use Rattle.lrpar_table_merge.proofs.reached.reached.Given as goal

-- there is a mark for each state
abbrev pub invariant-loop : goal.invariant-loop
invariant-loop l = length l.marks.items ≡ length l.all
