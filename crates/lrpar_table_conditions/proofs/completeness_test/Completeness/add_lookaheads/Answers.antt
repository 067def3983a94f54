use Rattle.std.proofs.Common.{◌≡◌, ◌∙◌, IsTrue, arith, refl}
use Rattle.lrpar_grammar.specs.Tokens.{has}
use Rattle.lrpar_table_rows.specs.Graph.{HasItem}
use Rattle.lrpar_table_conditions.proofs.ItemwiseLemmas.{lookahead_read, lookaheads_added, none_added, one_added, token_added}
use Rattle.lrpar_table_conditions.proofs.completeness_test.Completeness.add_lookaheads.Goals as goal

pub insert-requires : goal.insert-requires
insert-requires g c =
    let index = g.StorageT.StorageIndex.index in
    let graph = c.args.self.now.sgraph.now in
    let p = index c.args.pidx.0 in
    let has = lookahead_read index (HasItem graph (index c.args.s.0) p c.args.dot) c.lookaheads-token-items.result.now c.loop-token.token-index c.token-item.result
    c.lookaheads-token-items.ensures.all c.loop-token-test.true c.token-item.is in
    let item = c.requires.known.shape.items (index c.args.s.0) p c.args.dot (index c.token-item.result.0) has in
    let low = item.token in
    omega (arith, low, c.from.ensures, c.loop-token.invariant.0, c.requires.room)

pub loop-token-init : goal.loop-token-init
loop-token-init g c =
    let index = g.StorageT.StorageIndex.index in
    (refl, none_added (λ x t. index x.0 ≡ t) c.lookaheads-token-items.result.now (λ t. IsTrue (has c.args.set.now t)))

pub loop-token-preserved : goal.loop-token-preserved
loop-token-preserved g c =
    let index = g.StorageT.StorageIndex.index in (
      c.insert.ensures.room ∙ c.loop-token.invariant.0,
      one_added (λ x t. index x.0 ≡ t) c.lookaheads-token-items.result.now c.loop-token.token-index c.token-item.result
          (λ t. IsTrue (has c.args.set.now t)) (λ t. IsTrue (has c.loop-token.set t)) (λ t. IsTrue (has c.insert.new.self t))
          c.loop-token-test.true c.token-item.is
          (token_added c.loop-token.set c.insert.new.self c.from.result (index c.token-item.result.0) c.from.ensures c.insert.ensures.tokens)
          c.loop-token.invariant.1,
    )

pub returns-clause-put : goal.returns-clause-put
returns-clause-put g c =
    let index = g.StorageT.StorageIndex.index in
    lookaheads_added index (HasItem c.args.self.now.sgraph.now (index c.args.s.0) (index c.args.pidx.0) c.args.dot) c.lookaheads-token-items.result.now
    c.loop-token.token-index (λ t. IsTrue (has c.args.set.now t)) (λ t. IsTrue (has c.loop-token.set t))
    c.lookaheads-token-items.ensures.all c.loop-token-test.false c.loop-token.invariant.1
