use Rattle.std.proofs.Common.{◌<◌, ◌∙◌, sym, arith, length, map}
use Rattle.std.proofs.lemmas.List.{length-map, take_more_same}
use Rattle.lrpar_grammar.specs.Symbols.{symbol_of}
use Rattle.lrpar_conflict_derivations.proofs.ReplayLemmas.{symbol_at}
use Rattle.lrpar_conflict_derivations.proofs.replay.are_same.Goals as goal

pub loop-place-preserved : goal.loop-place-preserved
loop-place-preserved g c =
    let index = g.StorageT.StorageIndex.index in
    let i = c.loop-place.place in
    let one = c.args.one.now in
    let other = c.args.other.now in
    let low : i < length one = c.loop-place-test.true in
    let same = c.requires in
    let d = symbol_of index c.index-one-place.result in
    let first = symbol_at index one i c.index-one-place.result d low c.index-one-place.is in
    let second = symbol_at index other i c.index-other-place.result d (omega (arith, low, same)) c.index-other-place.is in
    let long_one = length-map one (symbol_of index) in
    let long_other = length-map other (symbol_of index) in
    take_more_same (map (symbol_of index) one) (map (symbol_of index) other) i d (omega (arith, long_one, low)) (omega (arith, long_other, low, same))
    c.loop-place.invariant (first ∙ c.is_same.ensures c.if-not-is_same.false ∙ sym second)
