use Rattle.std.proofs.Common.{◌<◌, ◌+◌, ℕ, IsTrue, All, List, arith, length, map, rules, subst, sym}
use Rattle.std.proofs.lemmas.Bool.{iff_false}
use Rattle.std.proofs.lemmas.List.Elements.{All-map}
use Rattle.lrpar_grammar_places.proofs.ListLemmas.{All-map-at}
use Rattle.lrpar_table_first.specs.FirstRows.{dummy_lookahead, row_at, rows_of}
use Rattle.lrpar_grammar.specs.Tokens.{has}
use Rattle.lrpar_table_first.proofs.RowLemmas.{wide_at}
use Rattle.lrpar_table_conditions.proofs.ItemwiseLemmas.{each_of_rule, row_of_rule, start_of_rule}
use Rattle.lrpar_table_rows.proofs.TestLemmas.{accepted, each_more, refused}
use Rattle.lrpar_table_conditions.proofs.completeness_test.Completeness.starts_cover.Goals as goal

pub bounds-starts-prod : goal.bounds-starts-prod
bounds-starts-prod g c =
    let index = g.StorageT.StorageIndex.index in
    start_of_rule index c.args.self.now.grm.now (index c.args.rule.0) c.rule_to_prods-pidx-items.result.now c.loop-pidx.pidx-index c.pidx-item.result c.args.starts.now c.from-prod.result
    c.rule_to_prods-pidx-items.ensures c.loop-pidx-test.true c.pidx-item.is c.requires.starts c.from-prod.ensures

pub offset_bounds-starts-prod : goal.offset_bounds-starts-prod
offset_bounds-starts-prod g c =
    let index = g.StorageT.StorageIndex.index in
    let within : c.from-prod.result < length c.args.starts.now =
    start_of_rule index c.args.self.now.grm.now (index c.args.rule.0) c.rule_to_prods-pidx-items.result.now c.loop-pidx.pidx-index c.pidx-item.result c.args.starts.now c.from-prod.result
    c.rule_to_prods-pidx-items.ensures c.loop-pidx-test.true c.pidx-item.is c.requires.starts c.from-prod.ensures in
    search rules

pub returns-then-not-covers : goal.returns-then-not-covers
returns-then-not-covers g c =
    let index = g.StorageT.StorageIndex.index in
    let grm = c.args.self.now.grm.now in
    let starts = c.args.starts.now in
    let prods = c.rule_to_prods-pidx-items.result.now in
    let P : ℕ → Type 0 = λ q. (b : ℕ) → IsTrue (has c.args.tokens.now b) → IsTrue (has (row_at (rows_of starts) q) b) in
    let row = row_of_rule index _ _ prods _ _ starts _ _ c.rule_to_prods-pidx-items.ensures c.loop-pidx-test.true c.pidx-item.is c.requires.starts c.from-prod.ensures c.index-starts-prod.is in
    refused (λ all.
    let of_rule = (each_of_rule grm (index c.args.rule.0) P).1 (λ q h by b has_b. all q b h by has_b) in
    let listed = subst (λ (qs : List ℕ). All P qs) (sym c.rule_to_prods-pidx-items.ensures) of_rule in
    let here = subst (λ x. P (index x.0)) (sym c.pidx-item.is) (All-map-at P (λ x. index x.0) prods listed c.loop-pidx.pidx-index c.pidx-item.result c.loop-pidx-test.true) in
    iff_false c.covers.ensures c.if-not-covers.true (λ b has_b. subst (λ bits. IsTrue (has bits b)) row (here b has_b)))

pub loop-pidx-preserved : goal.loop-pidx-preserved
loop-pidx-preserved g c =
    let index = g.StorageT.StorageIndex.index in
    let starts = c.args.starts.now in
    let prods = c.rule_to_prods-pidx-items.result.now in
    let P : ℕ → Type 0 = λ q. (b : ℕ) → IsTrue (has c.args.tokens.now b) → IsTrue (has (row_at (rows_of starts) q) b) in
    let row = row_of_rule index _ _ prods _ _ starts _ _ c.rule_to_prods-pidx-items.ensures c.loop-pidx-test.true c.pidx-item.is c.requires.starts c.from-prod.ensures c.index-starts-prod.is in
    let here : P (index c.pidx-item.result.0) =
    λ b has_b. subst (λ bits. IsTrue (has bits b)) (sym row) (c.covers.ensures.0 c.if-not-covers.false b has_b) in
    each_more (λ x. P (index x.0)) prods c.loop-pidx.pidx-index c.pidx-item.result c.loop-pidx-test.true c.pidx-item.is here c.loop-pidx.invariant

pub returns : goal.returns
returns g c =
    let index = g.StorageT.StorageIndex.index in
    let grm = c.args.self.now.grm.now in
    let prods = c.rule_to_prods-pidx-items.result.now in
    let P : ℕ → Type 0 = λ q. (b : ℕ) → IsTrue (has c.args.tokens.now b) → IsTrue (has (row_at (rows_of c.args.starts.now) q) b) in
    let mapped : All P (map (λ x. index x.0) prods) = All-map P (λ x. index x.0) prods (λ k d below. c.loop-pidx.invariant k d (omega arith)) in
    let listed = subst (λ (qs : List ℕ). All P qs) c.rule_to_prods-pidx-items.ensures mapped in
    accepted (λ q b known by has_b. (each_of_rule grm (index c.args.rule.0) P).0 listed q known by b has_b)
