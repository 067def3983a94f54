use Rattle.std.proofs.Common.{ℕ, arith}
use Rattle.std.proofs.lemmas.Bool.{iff_false}
use Rattle.lrpar_table_rows.specs.Graph.{HasItem}
use Rattle.lrpar_table_rows.specs.Safe.{IsItem}
use Rattle.lrpar_table_rows.proofs.GraphLemmas.{all_cores}
use Rattle.lrpar_table_rows.proofs.TestLemmas.{accepted, each_more, refused}
use Rattle.lrpar_table_conditions.proofs.checkable.Checkable.items_of_are_in_range.Goals as goal

pub returns-then-not-items_with_are_in_range : goal.returns-then-not-items_with_are_in_range
returns-then-not-items_with_are_in_range g c =
    let core = c.loop-pidx-item.result in
    refused (λ all. iff_false c.items_with_are_in_range.ensures c.if-not-items_with_are_in_range.true
    (all (g.StorageT.StorageIndex.index core.0.0) core.1))

pub loop-pidx-preserved : goal.loop-pidx-preserved
loop-pidx-preserved g c =
    let index = g.StorageT.StorageIndex.index in
    let graph = c.args.self.now.sgraph.now in
    let s = index c.args.s.0 in
    each_more (λ x. (t : ℕ) → HasItem graph s (index x.0.0) x.1 t → IsItem c.args.self.now.grm.now (index x.0.0) x.1 t) c.cores-pidx-items.result.now
    c.loop-pidx.pidx-index c.loop-pidx-item.result c.loop-pidx-test.true c.loop-pidx-item.is
    (c.items_with_are_in_range.ensures.0 c.if-not-items_with_are_in_range.false) c.loop-pidx.invariant

pub returns : goal.returns
returns g c =
    let index = g.StorageT.StorageIndex.index in
    let graph = c.args.self.now.sgraph.now in
    let s = index c.args.s.0 in
    let each = (all_cores index (λ p k. (t : ℕ) → HasItem graph s p k t → IsItem c.args.self.now.grm.now p k t) graph s c.cores-pidx-items.result.now
    c.cores-pidx-items.ensures.all).0 (λ n d below. c.loop-pidx.invariant n d (omega (arith, below, c.loop-pidx-test.false))) in
    accepted (λ p k t has. each p k (t, has) t has)
