use Rattle.std.proofs.Common.{◌≡◌}
use Rattle.lrpar_report_fixes.proofs.reports.with_fixes.Given as goal

-- the report keeps its level
abbrev pub invariant-loop-changes : goal.invariant-loop-changes
invariant-loop-changes g l = l.report.level ≡ l.fn.report.level
