use Rattle.std.proofs.Common.{◌≡◌, length}
use Rattle.lrpar_table_check.proofs.longest.Counts.new.Given as goal

-- a row for each rule so far
abbrev pub invariant-loop-rule : goal.invariant-loop-rule
invariant-loop-rule g l = length l.rows.items ≡ l._rule
