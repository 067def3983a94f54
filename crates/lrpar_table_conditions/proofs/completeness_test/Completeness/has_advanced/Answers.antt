use Rattle.std.proofs.Common.{◌+◌}
use Rattle.std.proofs.lemmas.Bool.{iff_false}
use Rattle.lrpar_table_rows.specs.Graph.{HasItem}
use Rattle.lrpar_table_conditions.proofs.ItemwiseLemmas.{all_of_core, each_lookahead, found_holds, lookahead_read}
use Rattle.lrpar_table_rows.proofs.TestLemmas.{accepted, each_more, refused}
use Rattle.lrpar_table_conditions.proofs.completeness_test.Completeness.has_advanced.Goals as goal

pub has_near-requires : goal.has_near-requires
has_near-requires g c =
    let index = g.StorageT.StorageIndex.index in
    let found = c.get.ensures.lookup in
    let P = HasItem c.args.self.now.sgraph.now (index c.args.next.0) (index c.args.pidx.0) (c.args.dot + 1) in
    found_holds (λ x. P (index x.0)) c.lookaheads-near.result.now c.loop-place.place
    c.get.result (all_of_core index P c.lookaheads-near.result.now c.lookaheads-near.ensures.all) found.1 found.3

pub returns-then-not-has_near : goal.returns-then-not-has_near
returns-then-not-has_near g c =
    let index = g.StorageT.StorageIndex.index in
    let H = HasItem c.args.self.now.sgraph.now (index c.args.s.0) (index c.args.pidx.0) c.args.dot in
    refused (λ all. iff_false c.has_near.ensures.found c.if-not-has_near.true (all (index c.index-tokens-place.result.0)
    (lookahead_read index H c.lookaheads-tokens.result.now c.loop-place.place c.index-tokens-place.result c.lookaheads-tokens.ensures.all c.loop-place-test.true
    c.index-tokens-place.is)))

pub loop-place-preserved : goal.loop-place-preserved
loop-place-preserved g c =
    let index = g.StorageT.StorageIndex.index in
    let has = c.has_near.ensures.found.0 c.if-not-has_near.false in
    each_more (λ x. HasItem c.args.self.now.sgraph.now (index c.args.next.0) (index c.args.pidx.0) (c.args.dot + 1) (index x.0)) c.lookaheads-tokens.result.now
    c.loop-place.place c.index-tokens-place.result c.loop-place-test.true c.index-tokens-place.is has
    c.loop-place.invariant

pub returns : goal.returns
returns g c =
    let index = g.StorageT.StorageIndex.index in
    let graph = c.args.self.now.sgraph.now in
    let p = index c.args.pidx.0 in
    accepted (each_lookahead index (HasItem graph (index c.args.s.0) p c.args.dot) (HasItem graph (index c.args.next.0) p (c.args.dot + 1))
    c.lookaheads-tokens.result.now c.loop-place.place c.lookaheads-tokens.ensures.all c.loop-place-test.false c.loop-place.invariant)
