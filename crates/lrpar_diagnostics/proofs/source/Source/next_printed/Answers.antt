use Rattle.std.proofs.Common.{◌+◌, sym, ◌∙◌, arith}
use Rattle.std.proofs.lemmas.Str.{IsUtf8-had}
use Rattle.lrpar_grammar_places.specs.Lines.{line_end}
use Rattle.lrpar_diagnostics.proofs.LineLemmas.{none_printed, next_printed, last_skipped, hidden_is_last, next_boundary}
use Rattle.lrpar_diagnostics.proofs.source.Source.next_printed.Goals as goal

pub returns-then-line_end-end-clause-next : goal.returns-then-line_end-end-clause-next
returns-then-line_end-end-clause-next c =
    let ends = c.line_end-line_end.ensures.end in
    none_printed c.args.self.now.lines c.args.start c.args.end c.requires.start c.requires.end (omega (arith, ends))

pub returns-then-is_printed-clause-next : goal.returns-then-is_printed-clause-next
returns-then-is_printed-clause-next c =
    let src = c.args.self.now.lines in
    let ends = c.line_end-line_end.ensures.end in
    rw ends (next_printed src c.args.start c.args.end c.requires.start c.requires.end (omega (arith, ends)) (rw (← ends) (sym c.is_printed.ensures ∙ c.if-is_printed.true)))

pub returns-then-is_printed-clause-boundary : goal.returns-then-is_printed-clause-boundary
returns-then-is_printed-clause-boundary c =
    let source = c.args.self.now in
    let ends = c.line_end-line_end.ensures.end in
    rw ends (next_boundary source.lines c.args.start (IsUtf8-had source.lines source.text_of_lines) c.requires.start (omega (arith, ends)))

pub returns-else-is_printed-clause-next : goal.returns-else-is_printed-clause-next
returns-else-is_printed-clause-next c =
    let src = c.args.self.now.lines in
    let ends = c.line_end-line_end.ensures.end in
    let hidden = rw ends at (sym c.is_printed.ensures ∙ c.if-is_printed.false) in
    last_skipped src c.args.start c.args.end c.requires.start c.requires.end (omega (arith, ends)) hidden (hidden_is_last src (line_end src c.args.start + 1) c.args.end hidden)
