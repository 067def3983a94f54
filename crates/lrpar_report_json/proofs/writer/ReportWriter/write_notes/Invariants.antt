use Rattle.std.proofs.Common.{map, take}
use Rattle.std.specs.Prelude.{string_bytes}
use Rattle.json.specs.Token.{string}
use Rattle.lrpar_report_json.specs.Writers.{WritesAll}
use Rattle.lrpar_report_json.proofs.writer.ReportWriter.write_notes.Given as goal

-- the notes so far are written
abbrev pub invariant-loop-note : goal.invariant-loop-note
invariant-loop-note l = WritesAll l.initial.self l.self (map (λ note. string (string_bytes note)) (take l.note-index l.notes))
