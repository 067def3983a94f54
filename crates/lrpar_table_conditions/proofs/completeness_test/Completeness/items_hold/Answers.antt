use Rattle.std.proofs.lemmas.Bool.{iff_false}
use Rattle.lrpar_table_conditions.specs.Itemwise.{ItemHolds}
use Rattle.lrpar_table_conditions.proofs.CoreLemmas.{core_read}
use Rattle.lrpar_table_conditions.proofs.ItemwiseLemmas.{core_each, core_more}
use Rattle.lrpar_table_rows.proofs.TestLemmas.{accepted, refused}
use Rattle.lrpar_table_conditions.proofs.completeness_test.Completeness.items_hold.Goals as goal

pub core_holds-requires-clause-core : goal.core_holds-requires-clause-core
core_holds-requires-clause-core g c =
    let index = g.StorageT.StorageIndex.index in
    core_read index c.args.self.now.sgraph.now (index c.args.s.0) c.cores-pidx-items.result.now c.loop-pidx.pidx-index c.loop-pidx-item.result
    c.cores-pidx-items.ensures.all c.loop-pidx-test.true c.loop-pidx-item.is

pub returns-then-not-core_holds : goal.returns-then-not-core_holds
returns-then-not-core_holds g c =
    let core = c.loop-pidx-item.result in
    refused (λ each. iff_false c.core_holds.ensures c.if-not-core_holds.true (each (g.StorageT.StorageIndex.index core.0.0) core.1))

pub loop-pidx-preserved : goal.loop-pidx-preserved
loop-pidx-preserved g c =
    let index = g.StorageT.StorageIndex.index in
    let graph = c.args.self.now.sgraph.now in
    let s = index c.args.s.0 in
    core_more index graph s (ItemHolds c.args.self.now.grm.now graph c.args.self.now.stable.now c.args.condition s) c.cores-pidx-items.result.now
    c.loop-pidx.pidx-index c.loop-pidx-item.result c.loop-pidx-test.true c.loop-pidx-item.is (c.core_holds.ensures.0 c.if-not-core_holds.false)
    c.loop-pidx.invariant

pub returns : goal.returns
returns g c =
    let index = g.StorageT.StorageIndex.index in
    let graph = c.args.self.now.sgraph.now in
    let s = index c.args.s.0 in
    accepted (core_each index graph s (ItemHolds c.args.self.now.grm.now graph c.args.self.now.stable.now c.args.condition s) c.cores-pidx-items.result.now
    c.loop-pidx.pidx-index c.cores-pidx-items.ensures.all c.loop-pidx-test.false c.loop-pidx.invariant)
