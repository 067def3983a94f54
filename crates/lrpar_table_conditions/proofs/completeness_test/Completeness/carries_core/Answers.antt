use Rattle.std.proofs.Common.{◌<◌, sym, subst}
use Rattle.lrpar_grammar.specs.Grammar.{Nonterminal}
use Rattle.lrpar_table_conditions.proofs.CoreLemmas.{core_known}
use Rattle.lrpar_table_conditions.proofs.ItemwiseLemmas.{each_of_kind, no_rule_at, nothing_to_step, rule_at, rules_apart}
use Rattle.lrpar_table_conditions.proofs.completeness_test.Completeness.carries_core.Goals as goal

pub rule_after-requires-clause-prod : goal.rule_after-requires-clause-prod
rule_after-requires-clause-prod g c = (core_known g.StorageT.StorageIndex.index c.args.self.now c.args.s c.args.pidx c.args.dot c.requires.known c.requires.core).0

pub rule_after-requires-clause-dot : goal.rule_after-requires-clause-dot
rule_after-requires-clause-dot g c = (core_known g.StorageT.StorageIndex.index c.args.self.now c.args.s c.args.pidx c.args.dot c.requires.known c.requires.core).1

pub goes_to-requires-clause-rule : goal.goes_to-requires-clause-rule
goes_to-requires-clause-rule g c =
    let index = g.StorageT.StorageIndex.index in
    subst (λ n. index c.in-Some.rule.0 < n) (sym c.requires.known.shape.rules) c.in-Some.ensures.within

pub goes_to-requires-clause-prod : goal.goes_to-requires-clause-prod
goes_to-requires-clause-prod g c =
    let index = g.StorageT.StorageIndex.index in
    (core_known index c.args.self.now c.args.s c.args.pidx c.args.dot c.requires.known c.requires.core).0

pub returns-in-Some : goal.returns-in-Some
returns-in-Some g c =
    let index = g.StorageT.StorageIndex.index in
    let grm = c.args.self.now.grm.now in
    let p = index c.args.pidx.0 in
    each_of_kind Nonterminal rules_apart grm c.args.self.now.sgraph.now c.args.self.now.stable.now (index c.args.s.0) p c.args.dot (index c.in-Some.rule.0)
    c.goes_to.result (rule_at grm p c.args.dot (index c.in-Some.rule.0) _ c.in-Some.ensures.rule) c.goes_to.ensures

pub returns-in-None : goal.returns-in-None
returns-in-None g c =
    let index = g.StorageT.StorageIndex.index in
    let grm = c.args.self.now.grm.now in
    nothing_to_step Nonterminal grm c.args.self.now.sgraph.now c.args.self.now.stable.now (index c.args.s.0) (index c.args.pidx.0) c.args.dot
    (no_rule_at grm (index c.args.pidx.0) c.args.dot c.in-None.ensures.rule)
