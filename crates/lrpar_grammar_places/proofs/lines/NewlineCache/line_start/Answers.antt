use Rattle.std.proofs.Common.{◌<◌, ◌≤◌, ◌-◌, length, get_or, sym, ap, ◌∙◌, subst, arith}
use Rattle.std.specs.Str.{IsCharBoundary}
use Rattle.lrpar_grammar_places.proofs.LineLemmas.{start_first, start_found, line_start_boundary}
use Rattle.lrpar_grammar_places.proofs.lines.NewlineCache.line_start.Goals as goal

pub returns-in-0-clause-start : goal.returns-in-0-clause-start
returns-in-0-clause-start c = λ text is.
    let within : c.args.byte ≤ length text = subst (λ v. c.args.byte ≤ v.len) is c.requires in
    start_first text c.args.byte within (sym c.in-0.is ∙ c.line_feeds_before.ensures.count text is)

pub returns-in-0-clause-boundary : goal.returns-in-0-clause-boundary
returns-in-0-clause-boundary c = λ text is utf8.
    let within : c.args.byte ≤ length text = subst (λ v. c.args.byte ≤ v.len) is c.requires in
    subst (IsCharBoundary text) (sym (start_first text c.args.byte within (sym c.in-0.is ∙ c.line_feeds_before.ensures.count text is)))
    (line_start_boundary text c.args.byte within utf8)

pub returns-in_default-clause-start : goal.returns-in_default-clause-start
returns-in_default-clause-start c = λ text is.
    let within : c.args.byte ≤ length text = subst (λ v. c.args.byte ≤ v.len) is c.requires in
    let feeds = c.line_feeds_before.result in
    let some : 0 < feeds = omega arith in
    c.index.ensures ∙ ap (λ v. get_or v.starts (feeds - 1) c.index.result.now) (c.self.view_is ∙ is)
    ∙ start_found text c.args.byte feeds c.index.result.now within (c.line_feeds_before.ensures.count text is) some

pub returns-in_default-clause-boundary : goal.returns-in_default-clause-boundary
returns-in_default-clause-boundary c = λ text is utf8.
    let within : c.args.byte ≤ length text = subst (λ v. c.args.byte ≤ v.len) is c.requires in
    subst (IsCharBoundary text) (sym (returns-in_default-clause-start c text is)) (line_start_boundary text c.args.byte within utf8)
