use Rattle.std.proofs.Common.{subst}
use Rattle.std.specs.Prelude.{codes}
use Rattle.std.proofs.lemmas.Result.{on_ok_weaker}
use Rattle.lrpar_report_json.specs.Tokens.{place_of, text_member}
use Rattle.lrpar_report_json.specs.Writers.{WritesAll}
use Rattle.lrpar_report_json.proofs.WriterLemmas.{writes_more, writes_next}
use Rattle.lrpar_report_json.proofs.writer.ReportWriter.write_members.Goals as goal

pub returns : goal.returns
returns c =
    let part = c.args.part in
    let old = c.args.self.now in
    let ends = c.write_ends.new.self in
    let start = c.write_place.new.self in
    let end = c.write_place-2.new.self in
    let new = c.write_text.new.self in
    let start_place = place_of part.start (codes "line") (codes "column") in
    let end_place = place_of part.end (codes "end_line") (codes "end_column") in
    let at_start : WritesAll ends start (start_place ends.lines.now) =
    subst (λ byte. WritesAll ends start (place_of byte (codes "line") (codes "column") ends.lines.now)) c.start.ensures.start c.in_ok-write_place.ensures in
    let at_end : WritesAll start end (end_place start.lines.now) =
    subst (λ byte. WritesAll start end (place_of byte (codes "end_line") (codes "end_column") start.lines.now)) c.end.ensures.end c.in_ok-write_place-2.ensures in
    let first = writes_next old ends start _ start_place c.in_ok-write_ends.ensures at_start in
    let second = writes_next old start end _ end_place first at_end in
    on_ok_weaker c.write_text.result (λ last. writes_more old end new _ (text_member (codes "text") c.args.said.now) second last) c.write_text.ensures
