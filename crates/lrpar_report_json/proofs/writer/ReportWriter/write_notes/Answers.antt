use Rattle.std.proofs.Common.{map}
use Rattle.std.specs.Prelude.{codes, string_bytes}
use Rattle.std.proofs.lemmas.Result.{on_ok_weaker}
use Rattle.json.specs.Token.{string}
use Rattle.lrpar_report_json.proofs.WriterLemmas.{with_json, writes_tokens, writes_list, writes_one}
use Rattle.lrpar_report_json.proofs.writer.ReportWriter.write_notes.Goals as goal

pub returns : goal.returns
returns c =
    let old = c.args.self.now in
    let named = with_json old c.key.new.self in
    let begin = with_json old c.begin_array.new.self in
    let items = c.loop-note.self in
    let new = with_json items c.end_array.new.self in
    let first = writes_one _ old c.key.new.self _ c.in_ok-key.ensures in
    let second = writes_one _ named c.begin_array.new.self _ c.in_ok-begin_array.ensures in
    let third = writes_tokens (λ note. string (string_bytes note)) begin items c.args.notes.now c.loop-note.note-index c.loop-note-test.false c.loop-note.invariant in
    on_ok_weaker c.end_array.result (λ last. writes_list old named begin items new (codes "notes") (map (λ note. string (string_bytes note)) c.args.notes.now) first second third last)
    (writes_one c.end_array.result items c.end_array.new.self _ c.end_array.ensures)
