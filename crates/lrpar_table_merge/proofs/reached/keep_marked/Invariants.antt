use Rattle.std.proofs.Common.{◌≡◌, ◌≤◌, length}
use Rattle.lrpar_table_merge.proofs.reached.keep_marked.Given as goal

-- those that are kept are among the ones so far
abbrev pub invariant-loop-number : goal.invariant-loop-number
invariant-loop-number l = (l.kept ≤ l.number) × (length l.all.items ≡ length l.initial.all.items)
