use Rattle.std.proofs.Common.{◌≡◌, ◌-◌, length, map, refl, ap, ◌∙◌, arith}
use Rattle.std.proofs.lemmas.List.{length-map}
use Rattle.lrpar_grammar_places.specs.Span.{Extent}
use Rattle.lrpar_grammar_words.specs.Words.{placed}
use Rattle.lrpar_grammar_words.specs.Outline.{alternative_of}
use Rattle.lrpar_grammar_reader.proofs.SpanLemmas.{between_ends, ordered_ends, placed_at}
use Rattle.lrpar_grammar_reader.proofs.spelled.prod_span.Goals as goal

pub new-requires : goal.new-requires
new-requires c =
    let symbols = c.args.alternative.now.symbols.items in
    let a = c.in-Some-Some.first.now in
    let b = c.in-Some-Some.last.now in
    let first = placed_at symbols c.deref.result.now 0 0 a c.deref.ensures.value refl c.in-Some-Some.ensures.value in
    let place : length c.deref-2.result.now - 1 ≡ length (map placed symbols) - 1 = omega (arith, ap length c.deref-2.ensures.value, length-map symbols placed) in
    let last = placed_at symbols c.deref-2.result.now (length c.deref-2.result.now - 1) (length (map placed symbols) - 1) b c.deref-2.ensures.value place c.in-Some-Some.ensures'.value in
    omega (
      arith,
      ordered_ends (map placed symbols) (placed a) (placed b) c.requires first last (omega arith) (omega arith),
      c.start.ensures.start,
      c.end.ensures.end,
      ap (λ (e : Extent). e.start) c.span.ensures,
      ap (λ (e : Extent). e.end) c.span-in-Some-Some.ensures,
    )

pub returns-in-Some-Some : goal.returns-in-Some-Some
returns-in-Some-Some c =
    let x = alternative_of c.args.alternative.now in
    let symbols = c.args.alternative.now.symbols.items in
    let a = placed c.in-Some-Some.first.now in
    let b = placed c.in-Some-Some.last.now in
    let first = placed_at symbols c.deref.result.now 0 0 c.in-Some-Some.first.now c.deref.ensures.value refl c.in-Some-Some.ensures.value in
    let place : length c.deref-2.result.now - 1 ≡ length (map placed symbols) - 1 = omega (arith, ap length c.deref-2.ensures.value, length-map symbols placed) in
    let last = placed_at symbols c.deref-2.result.now (length c.deref-2.result.now - 1) (length (map placed symbols) - 1) c.in-Some-Some.last.now c.deref-2.ensures.value place c.in-Some-Some.ensures'.value in
    between_ends x a b c.new.result first last (c.new.ensures.start ∙ c.start.ensures.start ∙ ap (λ (e : Extent). e.start) c.span.ensures)
    (c.new.ensures.end ∙ c.end.ensures.end ∙ ap (λ (e : Extent). e.end) c.span-in-Some-Some.ensures)
