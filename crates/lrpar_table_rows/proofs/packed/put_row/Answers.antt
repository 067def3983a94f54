use Rattle.std.proofs.Common.{◌≡◌, ◌∙◌, length, map, sym, subst, arith}
use Rattle.std.proofs.lemmas.List.{length-map}
use Rattle.lrpar_table_rows.specs.Packed.{IsPut}
use Rattle.lrpar_table_rows.proofs.PackedLemmas.{put_more}
use Rattle.lrpar_table_rows.proofs.SearchLemmas.{number_read}
use Rattle.lrpar_table_rows.proofs.packed.put_row.Goals as goal

pub loop-place-preserved : goal.loop-place-preserved
loop-place-preserved g c =
    let number = λ (entry : g.row.K.Denot × g.row.V.Denot). g.K.Key.number entry.0 in
    let here = number_read number c.args.row.now c.loop-place.place c.index-row-place.result c.loop-place-test.true c.index-row-place.is in
    let was = c.put_key.ensures.free c.if-not-put_key.false in
    put_more (map number c.args.row.now) c.args.base c.args.free c.args.slots.now c.loop-place.slots c.put_key.new.slots c.loop-place.place c.to_number.result
    was.0 c.loop-place.invariant c.requires (c.to_number.ensures.value ∙ sym here) was.1 (c.put_key.ensures.put c.if-not-put_key.false)

pub returns : goal.returns
returns g c =
    let number = λ (entry : g.row.K.Denot × g.row.V.Denot). g.K.Key.number entry.0 in
    let len = length-map c.args.row.now number in
    let all : c.loop-place.place ≡ length (map number c.args.row.now) = omega (arith, len) in
    λ done. subst (IsPut (map number c.args.row.now) c.args.base c.args.free c.args.slots.now c.loop-place.slots) all c.loop-place.invariant
