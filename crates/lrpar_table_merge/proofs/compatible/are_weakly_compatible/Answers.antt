use Rattle.std.proofs.Common.{◌<◌, ◌∙◌, below_more, refl, sym, arith, ℕ, length, map}
use Rattle.std.proofs.lemmas.Bool.{false≢true}
use Rattle.std.proofs.lemmas.List.{length-map}
use Rattle.lrpar_table_items.specs.Cores.{core_set}
use Rattle.lrpar_table_merge.specs.Compatible.{ArePairCompatible}
use Rattle.lrpar_table_merge.proofs.PairLemmas.{compatible_all, compatible_earlier}
use Rattle.lrpar_table_merge.proofs.SameCoreLemmas.{same_len}
use Rattle.lrpar_table_merge.proofs.compatible.are_weakly_compatible.Goals as goal

pub is_compatible_with_earlier-requires-clause-len : goal.is_compatible_with_earlier-requires-clause-len
is_compatible_with_earlier-requires-clause-len g c =
    same_len g.StorageT.StorageIndex.index c.args.kernel.now c.args.other.now (c.have_same_cores.ensures.0 c.if-not-have_same_cores.false)

pub returns-then-not-is_compatible_with_earlier : goal.returns-then-not-is_compatible_with_earlier
returns-then-not-is_compatible_with_earlier g c =
    let index = g.StorageT.StorageIndex.index in
    let kernel = map (core_set index) c.args.kernel.now in
    let other = map (core_set index) c.args.other.now in
    let len = length-map c.args.kernel.now (core_set index) in
    let low : c.loop-place.place < length kernel = omega (arith, len, c.loop-place-test.true) in (
      λ h. absurd (false≢true h),
      λ both.
          let earlier = compatible_earlier kernel other c.loop-place.place low both in
          absurd (false≢true (sym c.if-not-is_compatible_with_earlier.true ∙ c.is_compatible_with_earlier.ensures.1 earlier)),
    )

pub loop-place-preserved : goal.loop-place-preserved
loop-place-preserved g c =
    let index = g.StorageT.StorageIndex.index in
    let kernel = map (core_set index) c.args.kernel.now in
    let other = map (core_set index) c.args.other.now in
    below_more (λ i. (j : ℕ) → j < i → ArePairCompatible kernel other i j) c.loop-place.place c.loop-place.invariant
    (c.is_compatible_with_earlier.ensures.0 c.if-not-is_compatible_with_earlier.false)

pub returns : goal.returns
returns g c =
    let index = g.StorageT.StorageIndex.index in
    let kernel = map (core_set index) c.args.kernel.now in
    let other = map (core_set index) c.args.other.now in
    let len = length-map c.args.kernel.now (core_set index) in (
      λ h.
          compatible_all kernel other (c.have_same_cores.ensures.0 c.if-not-have_same_cores.false)
          (λ i low. c.loop-place.invariant i (omega (arith, len, low, c.loop-place-test.false))),
      λ h. refl,
    )
