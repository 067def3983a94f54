use Rattle.lrpar_report_lines.specs.Labels.{label_spans}
use Rattle.lrpar_report.specs.FaultPlaces.{IsOne, IsOnLine, IsWithin}
use Rattle.std.proofs.Common.{◌≡◌, ◌∷◌, []}
use Rattle.std.proofs.lemmas.Result.{IfOk-weaker}
use Rattle.lrpar_report.proofs.PlaceLemmas.{core_on_line, spans_on_line}
use Rattle.lrpar_report.proofs.lexer.line_report.Goals as goal

pub returns-in-Unread-clause-span : goal.returns-in-Unread-clause-span
returns-in-Unread-clause-span c =
    let core = c.core_of-core.result in
    IfOk-weaker c.unread.result (λ report. label_spans report ≡ core ∷ []) (λ report. IsOne (IsOnLine c.args.text.now c.args.number) (label_spans report))
    (λ report. core_on_line c.args.text.now c.args.number c.line_of-whole.result core (label_spans report) c.line_of-whole.ensures c.core_of-core.ensures)
    c.unread.ensures.span

pub returns-in-Unnamed-clause-span : goal.returns-in-Unnamed-clause-span
returns-in-Unnamed-clause-span c =
    let core = c.core_of-core.result in
    IfOk-weaker c.unnamed.result (λ report. IsOne (IsWithin core) (label_spans report))
    (λ report. IsOne (IsOnLine c.args.text.now c.args.number) (label_spans report))
    (λ report. spans_on_line c.args.text.now c.args.number c.line_of-whole.result core (label_spans report) c.line_of-whole.ensures c.core_of-core.ensures)
    c.unnamed.ensures.span

pub returns-in-Pattern-clause-span : goal.returns-in-Pattern-clause-span
returns-in-Pattern-clause-span c =
    let core = c.core_of-core.result in
    IfOk-weaker c.refused.result (λ report. IsOne (IsWithin core) (label_spans report))
    (λ report. IsOne (IsOnLine c.args.text.now c.args.number) (label_spans report))
    (λ report. spans_on_line c.args.text.now c.args.number c.line_of-whole.result core (label_spans report) c.line_of-whole.ensures c.core_of-core.ensures)
    c.refused.ensures.span
