use Rattle.std.proofs.Common.{◌≡◌, subst}
use Rattle.std.proofs.lemmas.Result.{on_ok_weaker}
use Rattle.lrpar_report_lines.specs.Places.{IsNextBoundary}
use Rattle.lrpar_report_json.specs.Places.{moved_part}
use Rattle.lrpar_report_json.specs.Tokens.{members_of}
use Rattle.lrpar_report_json.specs.Writers.{WritesAll}
use Rattle.lrpar_report_json.proofs.MovedLemmas.{moved_part_is}
use Rattle.lrpar_report_json.proofs.WriterLemmas.{with_json, writes_object, writes_one}
use Rattle.lrpar_report_json.proofs.writer.ReportWriter.write_part.Goals as goal

pub returns : goal.returns
returns c =
    let old = c.args.self.now in
    let text = old.lines.now in
    let span = c.args.span in
    let said = c.args.said.now in
    let part = c.part_of-part.result in
    let begin = with_json old c.begin_object.new.self in
    let members = c.write_members.new.self in
    let new = with_json members c.end_object.new.self in
    let start : IsNextBoundary text span.start part.start = subst (λ t. IsNextBoundary t span.start part.start) c.text.ensures c.part_of-part.ensures.start in
    let end : IsNextBoundary text span.end part.end = subst (λ t. IsNextBoundary t span.end part.end) c.text.ensures c.part_of-part.ensures.end in
    let place : part ≡ moved_part text span = moved_part_is text span part start end in
    let first = writes_one _ old c.begin_object.new.self _ c.in_ok-begin_object.ensures in
    let second : WritesAll begin members (members_of (moved_part text span) said text) =
    subst (λ p. WritesAll begin members (members_of p said text)) place c.in_ok-write_members.ensures in
    on_ok_weaker c.end_object.result
    (λ last. writes_object old begin members new (members_of (moved_part text span) said text) first second last)
    (writes_one c.end_object.result members c.end_object.new.self _ c.end_object.ensures)
