use Rattle.std.proofs.Common.{◌≡◌, ◌++◌}
use Rattle.std.specs.String.{string_bytes}
use Rattle.lrpar_report_columns.specs.Columns.{repeated}
use Rattle.lrpar_report_columns.proofs.lines.push_repeated.Given as goal

-- this number of characters is added
abbrev pub invariant-loop-i : goal.invariant-loop-i
invariant-loop-i l = string_bytes l.out ≡ string_bytes l.initial.out ++ repeated l._i l.c
