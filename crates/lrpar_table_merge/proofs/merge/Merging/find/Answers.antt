use Rattle.std.proofs.Common.{arith, get_or, map}
use Rattle.std.proofs.lemmas.List.{get_or_default}
use Rattle.lrpar_table_items.specs.Cores.{core_set}
use Rattle.lrpar_table_merge.specs.Merging.{kernels_of}
use Rattle.lrpar_table_merge.proofs.ListedLemmas.{tested_more}
use Rattle.lrpar_table_merge.proofs.MergingLemmas.{states_len}
use Rattle.lrpar_table_merge.proofs.merge.Merging.find.Goals as goal

pub loop-place-init : goal.loop-place-init
loop-place-init g c = λ k d low. absurd (omega (arith, low))

pub loop-place-preserved : goal.loop-place-preserved
loop-place-preserved g c =
    let index = g.StorageT.StorageIndex.index in
    let states = c.args.self.now.states.items in
    let kernels = kernels_of index states in
    let len = states_len index states in
    tested_more kernels (map (core_set index) c.args.kernel.now) c.args.numbers.now c.loop-place.place (get_or c.args.numbers.now c.loop-place.place 0)
    c.is_compatible.result c.loop-place-test.true (get_or_default c.args.numbers.now c.loop-place.place 0 _ c.loop-place-test.true)
    (λ low compatible. c.is_compatible.ensures.1 (omega (arith, low, len), compatible)) c.if-is_compatible.false c.loop-place.invariant

pub returns-then-is_compatible : goal.returns-then-is_compatible
returns-then-is_compatible g c =
    let both = c.is_compatible.ensures.0 c.if-is_compatible.true in
    record { low = both.0; compatible = both.1; none = tt }

pub returns-clause-none : goal.returns-clause-none
returns-clause-none g c = λ k d low. c.loop-place.invariant k d (omega (arith, low, c.loop-place-test.false))
