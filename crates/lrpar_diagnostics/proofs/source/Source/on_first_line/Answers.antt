use Rattle.std.proofs.Common.{◌≡◌, length, get_or, ap, ◌∙◌, arith}
use Rattle.lrpar_grammar_places.specs.Lines.{line_start}
use Rattle.lrpar_grammar_places.specs.Span.{Extent}
use Rattle.lrpar_diagnostics.proofs.ConflictLemmas.{group_of, not_first, part_at, same_item}
use Rattle.lrpar_diagnostics.proofs.source.Source.on_first_line.Goals as goal

pub line_start-requires : goal.line_start-requires
line_start-requires c =
    let part = part_at c.args.self.now.lines 0 c.args.spans.now c.loop-i.i c.index-spans-i.result c.requires.order c.loop-i-test.true in
    omega (arith, part.start.0, ap (λ (s : Extent). s.start) c.index-spans-i.is, c.start-in-loop-i.ensures.start)

pub returns-then-line_start-line-clause-group : goal.returns-then-line_start-line-clause-group
returns-then-line_start-line-clause-group c =
    let src = c.args.self.now.lines in
    let spans = c.args.spans.now in
    let line = c.line_start-line.result in
    let is : line ≡ line_start src (get_or spans 0 c.index-spans-0.result).start =
    c.line_start-line.ensures.start ∙ ap (line_start src) (c.start.ensures.start ∙ ap (λ (s : Extent). s.start) c.index-spans-0.is) in
    let here : c.line_start.result ≡ line_start src (get_or spans c.loop-i.i c.index-spans-i.result).start =
    c.line_start.ensures.start ∙ ap (line_start src) (c.start-in-loop-i.ensures.start ∙ ap (λ (s : Extent). s.start) c.index-spans-i.is) in
    let apart = λ (e : line_start src (get_or spans c.loop-i.i c.index-spans-i.result).start ≡ line). c.if-line_start-line.true (here ∙ e) in
    group_of src line c.loop-i.i spans (not_first src line c.loop-i.i spans c.index-spans-0.result c.index-spans-i.result c.requires.some is apart) (omega (arith, c.loop-i-test.true)) c.loop-i.invariant
    (λ within d. λ e. apart (ap (λ (s : Extent). line_start src s.start) (same_item spans c.loop-i.i c.index-spans-i.result d within) ∙ e))

pub returns-clause-group : goal.returns-clause-group
returns-clause-group c =
    let spans = c.args.spans.now in
    group_of c.args.self.now.lines c.line_start-line.result (length spans) spans c.requires.some (omega arith)
    (λ k d h. c.loop-i.invariant k d (omega (arith, h, c.loop-i-test.false))) (λ within d. absurd (omega (arith, within)))
