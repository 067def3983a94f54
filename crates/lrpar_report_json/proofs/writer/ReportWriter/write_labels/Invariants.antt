use Rattle.std.proofs.Common.{take}
use Rattle.std.specs.List.{flat_map}
use Rattle.lrpar_report_json.specs.Tokens.{label_object}
use Rattle.lrpar_report_json.specs.Writers.{WritesAll}
use Rattle.lrpar_report_json.proofs.writer.ReportWriter.write_labels.Given as goal

-- the labels so far are written
abbrev pub invariant-loop-label : goal.invariant-loop-label
invariant-loop-label l = WritesAll l.initial.self l.self (flat_map (label_object l.initial.self.lines.now) (take l.label-index l.labels))
