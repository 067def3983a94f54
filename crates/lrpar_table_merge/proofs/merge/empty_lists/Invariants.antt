use Rattle.std.proofs.Common.{◌≡◌, length}
use Rattle.lrpar_table_merge.proofs.merge.empty_lists.Given as goal

-- there are as many lists as passes
abbrev pub invariant-loop : goal.invariant-loop
invariant-loop l = length l.lists.items ≡ l.counter
