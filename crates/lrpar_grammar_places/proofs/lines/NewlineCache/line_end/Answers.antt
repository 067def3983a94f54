use Rattle.std.proofs.Common.{◌≡◌, ◌<◌, ◌≤◌, ◌+◌, ◌-◌, length, get_or, sym, ap, ◌∙◌, subst, arith}
use Rattle.std.specs.Str.{IsCharBoundary}
use Rattle.std.proofs.lemmas.Bool.{ltb-true}
use Rattle.lrpar_grammar_places.specs.Lines.{line_end}
use Rattle.lrpar_grammar_places.proofs.LineLemmas.{all_starts, end_found, end_last, line_end_boundary}
use Rattle.lrpar_grammar_places.proofs.lines.NewlineCache.line_end.Goals as goal

pub returns-in-Some-clause-end : goal.returns-in-Some-clause-end
returns-in-Some-clause-end c = λ text is.
    let within : c.args.byte ≤ length text = subst (λ v. c.args.byte ≤ v.len) is c.requires in
    let feeds = c.line_feeds_before.result in
    let next = c.in-Some.next.now in
    let starts : c.deref.result.now ≡ all_starts text = c.deref.ensures.value ∙ ap (λ v. v.starts) (c.self.view_is ∙ is) in
    let inside : feeds < length c.deref.result.now = ltb-true feeds (length c.deref.result.now) (sym c.in-Some.ensures.lookup.0) in
    let found : next ≡ line_end text c.args.byte + 1 =
    c.in-Some.ensures.lookup.1 ∙ ap (λ s. get_or s feeds next) starts
    ∙ end_found text c.args.byte feeds next within (c.line_feeds_before.ensures.count text is) (omega (arith, ap length starts)) in
    omega arith

pub returns-in-Some-clause-boundary : goal.returns-in-Some-clause-boundary
returns-in-Some-clause-boundary c = λ text is utf8.
    let within : c.args.byte ≤ length text = subst (λ v. c.args.byte ≤ v.len) is c.requires in
    subst (IsCharBoundary text) (sym (returns-in-Some-clause-end c text is)) (line_end_boundary text c.args.byte (length text - c.args.byte) (omega arith))

pub returns-in-None-clause-end : goal.returns-in-None-clause-end
returns-in-None-clause-end c = λ text is.
    let within : c.args.byte ≤ length text = subst (λ v. c.args.byte ≤ v.len) is c.requires in
    let starts : c.deref.result.now ≡ all_starts text = c.deref.ensures.value ∙ ap (λ v. v.starts) (c.self.view_is ∙ is) in
    ap (λ v. v.len) (c.self.view_is ∙ is) ∙ end_last text c.args.byte c.line_feeds_before.result within (c.line_feeds_before.ensures.count text is)
    (omega (arith, c.in-None.ensures.lookup.3, ap length starts))
