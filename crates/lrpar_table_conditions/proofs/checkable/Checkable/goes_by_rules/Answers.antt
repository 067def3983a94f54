use Rattle.std.proofs.Common.{◌≡◌, ◌≢◌, ℕ, Some, arith, refl, subst}
use Rattle.std.proofs.lemmas.Bool.{iff_false}
use Rattle.lrpar_grammar.specs.Grammar.{rule_of, start_prod}
use Rattle.lrpar_table_rows.specs.Graph.{HasCore}
use Rattle.lrpar_table_rows.specs.Table.{goto_of}
use Rattle.lrpar_table_rows.proofs.GraphLemmas.{all_cores}
use Rattle.lrpar_table_rows.proofs.TestLemmas.{accepted, each_more, refused}
use Rattle.lrpar_table_conditions.proofs.CoreLemmas.{core_known_read, core_read}
use Rattle.lrpar_table_conditions.proofs.checkable.Checkable.goes_by_rules.Goals as goal
use Rattle.lrpar_table_conditions.proofs.checkable.Checkable.goes_by_rules.Goals.{else-dot-eq0-via-then-dot-eq0+else-not-goes_by_rule_of, else-dot-eq0-via-else-dot-eq0}

pub goes_by_rule_of-requires-clause-prod : goal.goes_by_rule_of-requires-clause-prod
goes_by_rule_of-requires-clause-prod g c =
    (core_known_read g.StorageT.StorageIndex.index _ _ _ _ _ _ _ c.requires.shape c.cores-pidx-items.ensures.all c.loop-pidx-test.true c.loop-pidx-item.is).0

pub returns-then-not-goes_by_rule_of : goal.returns-then-not-goes_by_rule_of
returns-then-not-goes_by_rule_of g c =
    let index = g.StorageT.StorageIndex.index in
    let first =
    subst (λ (k : ℕ). HasCore c.args.self.now.sgraph.now (index c.args.s.0) (index c.loop-pidx-item.result.0.0) k) c.if-dot-eq0.true
    (core_read index c.args.self.now.sgraph.now (index c.args.s.0) _ _ _ c.cores-pidx-items.ensures.all c.loop-pidx-test.true c.loop-pidx-item.is) in
    refused (λ goes. iff_false c.goes_by_rule_of.ensures c.if-not-goes_by_rule_of.true (goes _ first))

pub loop-pidx-preserved : goal.loop-pidx-preserved
loop-pidx-preserved g c =
    let index = g.StorageT.StorageIndex.index in
    let grm = c.args.self.now.grm.now in
    let item = c.loop-pidx-item.result in
    let here : item.1 ≡ 0 → index item.0.0 ≢ start_prod grm
    → (next : ℕ) × (goto_of c.args.self.now.stable.now (index c.args.s.0) (rule_of grm (index item.0.0)) ≡ Some next) =
    elim c.else-dot-eq0.branch [
      | else-dot-eq0-via-then-dot-eq0+else-not-goes_by_rule_of w ↦ λ _. w.goes_by_rule_of.ensures.0 w.if-not-goes_by_rule_of.false
      | else-dot-eq0-via-else-dot-eq0 w ↦ λ e. absurd (w.if-dot-eq0.false e)
    ] in
    each_more
    (λ x. x.1 ≡ 0 → index x.0.0 ≢ start_prod grm
    → (next : ℕ) × (goto_of c.args.self.now.stable.now (index c.args.s.0) (rule_of grm (index x.0.0)) ≡ Some next))
    c.cores-pidx-items.result.now c.loop-pidx.pidx-index item c.loop-pidx-test.true c.loop-pidx-item.is here c.loop-pidx.invariant

pub returns : goal.returns
returns g c =
    let index = g.StorageT.StorageIndex.index in
    let grm = c.args.self.now.grm.now in
    let all =
    all_cores index
    (λ p k. k ≡ 0 → p ≢ start_prod grm → (next : ℕ) × (goto_of c.args.self.now.stable.now (index c.args.s.0) (rule_of grm p) ≡ Some next))
    c.args.self.now.sgraph.now (index c.args.s.0) c.cores-pidx-items.result.now c.cores-pidx-items.ensures.all in
    accepted (λ p h. all.0 (λ k d below. c.loop-pidx.invariant k d (omega arith)) p 0 h refl)
