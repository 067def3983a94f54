use Rattle.std.proofs.Common.{◌<◌, ◌∙◌, refl, sym, ap, arith, length, map}
use Rattle.std.proofs.lemmas.Bool.{false≢true}
use Rattle.std.proofs.lemmas.List.{take_all}
use Rattle.lrpar_table_items.specs.Cores.{core_set}
use Rattle.lrpar_table_items.proofs.FindLemmas.{same_at, same_more}
use Rattle.lrpar_table_items.proofs.cores.are_same.Goals as goal

pub returns-then-not-is_same : goal.returns-then-not-is_same
returns-then-not-is_same g c =
    let index = g.StorageT.StorageIndex.index in
    let cores = c.args.cores.now in
    let others = c.args.others.now in
    let place = c.loop-place.place in
    let below : place < length others = omega (arith, c.loop-place-test.true, c.if-cores-others.false) in (
      λ h. absurd (false≢true h),
      λ same.
          let here =
          same_at (core_set index) cores others place c.index-cores-place.result c.index-others-place.result c.loop-place-test.true below
          c.index-cores-place.is c.index-others-place.is same in
          absurd (false≢true (sym c.if-not-is_same.true ∙ c.is_same.ensures.1 here)),
    )

pub loop-place-preserved : goal.loop-place-preserved
loop-place-preserved g c =
    let index = g.StorageT.StorageIndex.index in
    let cores = c.args.cores.now in
    let others = c.args.others.now in
    let place = c.loop-place.place in
    let below : place < length others = omega (arith, c.loop-place-test.true, c.if-cores-others.false) in
    same_more (core_set index) cores others place c.index-cores-place.result c.index-others-place.result c.loop-place-test.true below
    c.index-cores-place.is c.index-others-place.is c.loop-place.invariant (c.is_same.ensures.0 c.if-not-is_same.false)

pub returns : goal.returns
returns g c =
    let index = g.StorageT.StorageIndex.index in
    let cores = c.args.cores.now in
    let others = c.args.others.now in
    let place = c.loop-place.place in (
      λ h.
          ap (map (core_set index)) (sym (take_all place cores c.loop-place-test.false)) ∙ c.loop-place.invariant
          ∙ ap (map (core_set index)) (take_all place others (omega (arith, c.loop-place-test.false, c.if-cores-others.false))),
      λ h. refl,
    )
