use Rattle.std.proofs.Common.{◌<◌, ◌∙◌, below_more, refl, sym, arith, length, map}
use Rattle.std.proofs.lemmas.Bool.{false≢true}
use Rattle.lrpar_table_items.specs.Cores.{core_set}
use Rattle.lrpar_table_merge.specs.Compatible.{ArePairCompatible}
use Rattle.lrpar_table_merge.proofs.PairLemmas.{pair_values}
use Rattle.lrpar_table_merge.proofs.compatible.is_compatible_with_earlier.Goals as goal

pub returns-then-not-is_pair_compatible : goal.returns-then-not-is_pair_compatible
returns-then-not-is_pair_compatible g c =
    let kernel = c.args.kernel.now in
    let low : c.loop-earlier.earlier < length kernel = omega (arith, c.loop-earlier-test.true, c.requires.place) in
    let pair =
    pair_values g.StorageT.StorageIndex.index kernel c.args.other.now c.args.place c.loop-earlier.earlier c.index-kernel-place.result
    c.index-other-place.result c.index-kernel-earlier.result c.index-other-earlier.result c.requires.len c.requires.place low in (
      λ h. absurd (false≢true h),
      λ all.
          let values = pair.1 (all c.loop-earlier.earlier c.loop-earlier-test.true) in
          absurd (false≢true (sym c.if-not-is_pair_compatible.true ∙ c.is_pair_compatible.ensures.1 values)),
    )

pub loop-earlier-preserved : goal.loop-earlier-preserved
loop-earlier-preserved g c =
    let index = g.StorageT.StorageIndex.index in
    let kernel = c.args.kernel.now in
    let other = c.args.other.now in
    let low : c.loop-earlier.earlier < length kernel = omega (arith, c.loop-earlier-test.true, c.requires.place) in
    let pair =
    pair_values index kernel other c.args.place c.loop-earlier.earlier c.index-kernel-place.result
    c.index-other-place.result c.index-kernel-earlier.result c.index-other-earlier.result c.requires.len c.requires.place low in
    below_more (ArePairCompatible (map (core_set index) kernel) (map (core_set index) other) c.args.place) c.loop-earlier.earlier c.loop-earlier.invariant
    (pair.0 (c.is_pair_compatible.ensures.0 c.if-not-is_pair_compatible.false))

pub returns : goal.returns
returns g c = (λ h j low. c.loop-earlier.invariant j (omega (arith, low, c.loop-earlier-test.false)), λ h. refl)
