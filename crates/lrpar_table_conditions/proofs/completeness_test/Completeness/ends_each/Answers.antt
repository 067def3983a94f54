use Rattle.std.proofs.Common.{◌<◌, ℕ, subst, sym}
use Rattle.std.proofs.lemmas.Bool.{iff_false}
use Rattle.lrpar_table_rows.specs.Graph.{HasItem}
use Rattle.lrpar_table_rows.specs.Table.{action_of}
use Rattle.lrpar_table_conditions.specs.Itemwise.{EndsBy}
use Rattle.lrpar_table_conditions.proofs.ItemwiseLemmas.{each_lookahead, lookahead_read}
use Rattle.lrpar_table_rows.proofs.TestLemmas.{accepted, each_more, refused}
use Rattle.lrpar_table_conditions.proofs.completeness_test.Completeness.ends_each.Goals as goal

pub ends_at-requires-clause-token : goal.ends_at-requires-clause-token
ends_at-requires-clause-token g c =
    let index = g.StorageT.StorageIndex.index in
    let p = index c.args.pidx.0 in
    let s = index c.args.s.0 in
    let has = lookahead_read index (HasItem c.args.self.now.sgraph.now s p c.args.dot) c.lookaheads-token-items.result.now c.loop-token.token-index
    c.token-item.result c.lookaheads-token-items.ensures.all c.loop-token-test.true c.token-item.is in
    let item = c.requires.known.shape.items s p c.args.dot (index c.token-item.result.0) has in
    subst (λ n. index c.token-item.result.0 < n) (sym c.requires.known.shape.tokens) item.token

pub returns-then-not-ends_at : goal.returns-then-not-ends_at
returns-then-not-ends_at g c =
    let index = g.StorageT.StorageIndex.index in
    let H = HasItem c.args.self.now.sgraph.now (index c.args.s.0) (index c.args.pidx.0) c.args.dot in
    refused (λ all. iff_false c.ends_at.ensures c.if-not-ends_at.true (all (index c.token-item.result.0)
    (lookahead_read index H c.lookaheads-token-items.result.now c.loop-token.token-index c.token-item.result c.lookaheads-token-items.ensures.all
    c.loop-token-test.true c.token-item.is)))

pub loop-token-preserved : goal.loop-token-preserved
loop-token-preserved g c =
    let index = g.StorageT.StorageIndex.index in
    each_more (λ x. EndsBy c.args.self.now.grm.now (index c.args.pidx.0) (action_of c.args.self.now.stable.now (index c.args.s.0) (index x.0)))
    c.lookaheads-token-items.result.now c.loop-token.token-index c.token-item.result c.loop-token-test.true c.token-item.is
    (c.ends_at.ensures.0 c.if-not-ends_at.false) c.loop-token.invariant

pub returns : goal.returns
returns g c =
    let index = g.StorageT.StorageIndex.index in
    let P : ℕ → Type 0 = λ t. EndsBy c.args.self.now.grm.now (index c.args.pidx.0) (action_of c.args.self.now.stable.now (index c.args.s.0) t) in
    accepted (each_lookahead index (HasItem c.args.self.now.sgraph.now (index c.args.s.0) (index c.args.pidx.0) c.args.dot) P
    c.lookaheads-token-items.result.now c.loop-token.token-index c.lookaheads-token-items.ensures.all c.loop-token-test.false c.loop-token.invariant)
