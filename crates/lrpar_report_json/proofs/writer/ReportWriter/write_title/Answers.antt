use Rattle.std.proofs.Common.{subst}
use Rattle.std.specs.Prelude.{codes, string_bytes}
use Rattle.std.proofs.lemmas.Result.{on_ok_weaker}
use Rattle.lrpar_report_json.specs.Tokens.{text_member}
use Rattle.lrpar_report_json.specs.Writers.{WritesAll}
use Rattle.lrpar_report_lines.specs.Levels.{level_word}
use Rattle.lrpar_report_json.proofs.WriterLemmas.{writes_more}
use Rattle.lrpar_report_json.proofs.writer.ReportWriter.write_title.Goals as goal

pub returns : goal.returns
returns c =
    let report = c.args.report.now in
    let old = c.args.self.now in
    let path = c.write_text.new.self in
    let severity = c.write_text-2.new.self in
    let new = c.write_text-3.new.self in
    let written_severity : WritesAll path severity (text_member (codes "severity") (level_word report.level)) =
    subst (λ word. WritesAll path severity (text_member (codes "severity") word)) c.word.ensures c.in_ok-write_text-2.ensures in
    let first = writes_more old path severity _ _ c.in_ok-write_text.ensures written_severity in
    on_ok_weaker c.write_text-3.result
    (λ last. writes_more old severity new _ (text_member (codes "message") (string_bytes report.message)) first
    (subst (λ text. WritesAll severity new (text_member (codes "message") text)) c.as_str.ensures.value last)) c.write_text-3.ensures
