use Rattle.std.proofs.Common.{◌≡◌, ◌+◌, ℕ, Some, arith, slice_get}
use Rattle.std.proofs.lemmas.Bool.{iff_false}
use Rattle.lrpar_grammar.specs.Grammar.{symbols_of}
use Rattle.lrpar_grammar.specs.Symbols.{symbol_of}
use Rattle.lrpar_table_rows.specs.Graph.{HasCore}
use Rattle.lrpar_table_rows.proofs.GraphLemmas.{all_begun}
use Rattle.lrpar_table_rows.proofs.TestLemmas.{accepted, each_more, refused}
use Rattle.lrpar_table_conditions.proofs.CoreLemmas.{begun_known_read, begun_read, cores_follow_each}
use Rattle.lrpar_table_conditions.proofs.checkable.Checkable.cores_follow.Goals as goal

pub core_follows-requires-clause-prod : goal.core_follows-requires-clause-prod
core_follows-requires-clause-prod g c =
    (begun_known_read g.StorageT.StorageIndex.index _ _ _ _ _ _ _ c.requires.shape c.begun_cores-pidx-items.ensures.all c.loop-pidx-test.true c.loop-pidx-item.is).0

pub core_follows-requires-clause-dot : goal.core_follows-requires-clause-dot
core_follows-requires-clause-dot g c =
    (begun_known_read g.StorageT.StorageIndex.index _ _ _ _ _ _ _ c.requires.shape c.begun_cores-pidx-items.ensures.all c.loop-pidx-test.true c.loop-pidx-item.is).1

pub returns-then-not-core_follows : goal.returns-then-not-core_follows
returns-then-not-core_follows g c =
    let index = g.StorageT.StorageIndex.index in
    let has = begun_read index c.args.self.now.sgraph.now (index c.args.next.0) _ _ _ c.begun_cores-pidx-items.ensures.all c.loop-pidx-test.true c.loop-pidx-item.is in
    let each =
    cores_follow_each c.args.self.now.grm.now c.args.self.now.sgraph.now (index c.args.s.0) (symbol_of index c.args.symbol) (index c.args.next.0) in
    refused (λ follow. iff_false c.core_follows.ensures c.if-not-core_follows.true (each.1 follow _ _ has))

pub loop-pidx-preserved : goal.loop-pidx-preserved
loop-pidx-preserved g c =
    let index = g.StorageT.StorageIndex.index in
    each_more
    (λ x. (before : ℕ) → x.1 ≡ before + 1
    → (slice_get (symbols_of c.args.self.now.grm.now (index x.0.0)) before ≡ Some (symbol_of index c.args.symbol))
    × HasCore c.args.self.now.sgraph.now (index c.args.s.0) (index x.0.0) before)
    c.begun_cores-pidx-items.result.now c.loop-pidx.pidx-index c.loop-pidx-item.result c.loop-pidx-test.true c.loop-pidx-item.is
    (c.core_follows.ensures.0 c.if-not-core_follows.false) c.loop-pidx.invariant

pub returns : goal.returns
returns g c =
    let index = g.StorageT.StorageIndex.index in
    let each =
    cores_follow_each c.args.self.now.grm.now c.args.self.now.sgraph.now (index c.args.s.0) (symbol_of index c.args.symbol) (index c.args.next.0) in
    let all =
    all_begun index
    (λ p k. (before : ℕ) → k ≡ before + 1
    → (slice_get (symbols_of c.args.self.now.grm.now p) before ≡ Some (symbol_of index c.args.symbol))
    × HasCore c.args.self.now.sgraph.now (index c.args.s.0) p before)
    c.args.self.now.sgraph.now (index c.args.next.0) c.begun_cores-pidx-items.result.now c.begun_cores-pidx-items.ensures.all
    (λ p before front. absurd (omega (arith, front))) in
    accepted (each.0 (all.0 (λ k d below. c.loop-pidx.invariant k d (omega arith))))
