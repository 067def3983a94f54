use Rattle.std.proofs.Common.{◌∙◌, ◌<◌, length, map, sym, arith}
use Rattle.std.proofs.lemmas.List.{get_or-map, length-map, take_more_same}
use Rattle.lrpar_table_rows.proofs.packed.have_same_keys.Goals as goal

pub loop-place-preserved : goal.loop-place-preserved
loop-place-preserved g c =
    let number = λ (entry : g.row.K.Denot × g.row.V.Denot). g.K.Key.number entry.0 in
    let one = c.args.one.now in
    let other = c.args.other.now in
    let place = c.loop-place.place in
    let in_one : place < length one = omega arith in
    let in_other : place < length other = omega arith in
    let here = get_or-map number one place c.index-one-place.result 0 in_one in
    let there = get_or-map number other place c.index-other-place.result 0 in_other in
    let mapped_one : place < length (map number one) = simp length-map in_one in
    let mapped_other : place < length (map number other) = simp length-map in_other in
    take_more_same (map number one) (map number other) place 0 mapped_one mapped_other c.loop-place.invariant
    (here ∙ (sym c.to_number.ensures.value ∙ (c.if-to_number.false ∙ (c.to_number-in-loop-place.ensures.value ∙ sym there))))
