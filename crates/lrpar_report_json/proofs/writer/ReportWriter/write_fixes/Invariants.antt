use Rattle.std.proofs.Common.{take}
use Rattle.std.specs.List.{flat_map}
use Rattle.lrpar_report_json.specs.Tokens.{fix_object}
use Rattle.lrpar_report_json.specs.Writers.{WritesAll}
use Rattle.lrpar_report_json.proofs.writer.ReportWriter.write_fixes.Given as goal

-- the fixes so far are written
abbrev pub invariant-loop-fix : goal.invariant-loop-fix
invariant-loop-fix l = WritesAll l.initial.self l.self (flat_map (λ fix. fix_object fix l.initial.self.lines.now) (take l.fix-index l.fixes))
