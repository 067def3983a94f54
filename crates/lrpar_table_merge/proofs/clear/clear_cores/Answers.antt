use Rattle.std.proofs.Common.{◌<◌, arith, length, map}
use Rattle.std.proofs.lemmas.List.{length-map}
use Rattle.lrpar_table_items.specs.Cores.{core_set}
use Rattle.lrpar_table_merge.proofs.ClearLemmas.{cleared_on, no_lookaheads}
use Rattle.lrpar_table_merge.proofs.clear.clear_cores.Goals as goal

pub loop-place-preserved : goal.loop-place-preserved
loop-place-preserved g c =
    let one = c.clear_core.ensures in
    let low : c.loop-place.place < length c.loop-place.kernel = omega (arith, c.loop-place-test.true, c.loop-place.auto.kernel) in
    cleared_on g.StorageT.StorageIndex.index c.loop-place.kernel c.loop-place.place c.clear_core.new.core c.index-kernel-place.result low
    c.args.kernel.now c.loop-place.invariant one.core one.same one.none

pub returns-clause-none : goal.returns-clause-none
returns-clause-none g c =
    let index = g.StorageT.StorageIndex.index in
    let kernel = c.loop-place.kernel in
    let count = length-map kernel (core_set index) in
    no_lookaheads (map (core_set index) kernel)
    (λ k low t. c.loop-place.invariant.none k (omega (arith, low, count, c.loop-place-test.false, c.loop-place.auto.kernel)) t)
