use Rattle.std.proofs.Common.{◌≡◌, ◌≤◌, ◌∙◌, Option, None, Some, ap, arith, sym}
use Rattle.std.specs.List.{last_or}
use Rattle.lrpar_parse_lexemes.specs.PlacedSpans.{span_before}
use Rattle.lrpar_parse_lexemes.specs.declared.placed.Placed.{Placed}
use Rattle.lrpar_parse_lexemes.proofs.PlacedLemmas.{first_before_last, last_or_at, over_nothing, over_own}
use Rattle.lrpar_parse_lexemes.proofs.placed.span_of.Goals as goal

pub new-requires-else-is_empty : goal.new-requires-else-is_empty
new-requires-else-is_empty g c =
    let first = c.index-own-0.result in
    let last = c.index-own-own.result in
    let order : first.span.start ≤ last.span.start =
    first_before_last c.args.before.now c.args.own.now c.requires.0 first last c.requires.1 (sym c.is_empty.ensures ∙ c.if-is_empty.false) c.index-own-0.is c.index-own-own.is in
    let start = rw (sym c.index-own-0.is) at c.start.ensures.start in
    let end = rw (sym c.index-own-own.is) at c.end.ensures.end in
    let ordered = rw (sym c.index-own-own.is) at c.end.ensures.ordered in
    omega (arith, order, start, end, ordered)

pub returns-in-Some : goal.returns-in-Some
returns-in-Some g c =
    let last : last_or {A = Placed g.row.T.Denot} None c.args.before.now ≡ Some c.in-Some.entry.now = last_or_at None c.args.before.now c.in-Some.entry.now (sym c.in-Some.ensures.value) in
    sym (over_nothing (span_before (last_or None c.args.before.now)) c.args.own.now (sym c.is_empty.ensures ∙ c.if-is_empty.true)
    ∙ ap (λ (o : Option (Placed g.row.T.Denot)). span_before o) last)

pub returns-else-is_empty : goal.returns-else-is_empty
returns-else-is_empty g c =
    over_own _ c.args.own.now c.index-own-0.result c.index-own-own.result c.new-else-is_empty.result (sym c.is_empty.ensures ∙ c.if-is_empty.false) c.index-own-0.is c.index-own-own.is
    (c.new-else-is_empty.ensures.start ∙ rw (sym c.index-own-0.is) at c.start.ensures.start) (c.new-else-is_empty.ensures.end ∙ rw (sym c.index-own-own.is) at c.end.ensures.end)
