use Rattle.std.proofs.Common.{true, All, take}
use Rattle.std.specs.Fn.{FnReturnsAt}
use Rattle.lrpar_table_rows.proofs.each.all_rows.Given as goal

-- the rows so far pass the test
abbrev pub invariant-loop-row : goal.invariant-loop-row
invariant-loop-row g l = All (λ row. FnReturnsAt g.F.Fn l.test row.items true) (take l.row-index l.rows)
