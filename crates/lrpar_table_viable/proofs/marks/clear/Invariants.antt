use Rattle.std.proofs.Common.{◌≡◌, ◌<◌, ℕ, false}
use Rattle.lrpar_table_viable.specs.Marks.{is_marked}
use Rattle.lrpar_table_viable.proofs.marks.clear.Given as goal

-- no rule so far is marked
abbrev pub invariant-loop-mark : goal.invariant-loop-mark
invariant-loop-mark l = (r : ℕ) → r < l.mark-index → is_marked l.marks r ≡ false
