use Rattle.std.proofs.Common.{take}
use Rattle.std.specs.List.{flat_map}
use Rattle.lrpar_report_json.specs.Tokens.{edit_object}
use Rattle.lrpar_report_json.specs.Writers.{WritesAll}
use Rattle.lrpar_report_json.proofs.writer.ReportWriter.write_edits.Given as goal

-- the edits so far are written
abbrev pub invariant-loop-edit : goal.invariant-loop-edit
invariant-loop-edit l = WritesAll l.initial.self l.self (flat_map (edit_object l.initial.self.lines.now) (take l.edit-index l.edits))
