use Rattle.std.proofs.Common.{◌∙◌, sym, ap, arith, slice_index_or}
use Rattle.std.proofs.lemmas.Bool.{false≢true}
use Rattle.std.proofs.lemmas.List.{length-map, take_more_same}
use Rattle.lrpar_conflict_derivations.specs.Texts.{token_numbers}
use Rattle.lrpar_conflict_derivations.proofs.TextLemmas.{numbers_at}
use Rattle.lrpar_conflict_derivations.proofs.example.are_same.Goals as goal

pub returns-then-from : goal.returns-then-from
returns-then-from g c =
    let index = g.StorageT.StorageIndex.index in
    let i = c.loop-place.place in
    let both =
    numbers_at index c.args.one.now c.args.other.now i c.index-one-place.result c.index-other-place.result 0 c.loop-place-test.true c.if-one-other.false
    c.index-one-place.is c.index-other-place.is in (
      λ is. absurd (false≢true is),
      λ all. absurd (c.if-from.true (c.from.ensures ∙ sym both.0 ∙ ap (λ ns. slice_index_or ns i 0) all ∙ both.1 ∙ sym c.from-in-loop-place.ensures)),
    )

pub loop-place-preserved : goal.loop-place-preserved
loop-place-preserved g c =
    let index = g.StorageT.StorageIndex.index in
    let one = c.args.one.now in
    let other = c.args.other.now in
    let low = c.loop-place-test.true in
    let same = c.if-one-other.false in
    let both =
    numbers_at index one other c.loop-place.place c.index-one-place.result c.index-other-place.result 0 low same c.index-one-place.is c.index-other-place.is in
    let long_one = length-map one (λ t. index t.0) in
    let long_other = length-map other (λ t. index t.0) in
    take_more_same (token_numbers index one) (token_numbers index other) c.loop-place.place 0 (omega (arith, long_one, low))
    (omega (arith, long_other, low, same)) c.loop-place.invariant (both.0 ∙ sym c.from.ensures ∙ c.if-from.false ∙ c.from-in-loop-place.ensures ∙ sym both.1)
