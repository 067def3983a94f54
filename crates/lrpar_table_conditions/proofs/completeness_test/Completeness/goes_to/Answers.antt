use Rattle.std.proofs.Common.{◌≡◌, ◌∙◌, None, Some, sym}
use Rattle.lrpar_grammar.specs.Grammar.{Nonterminal}
use Rattle.lrpar_table_conditions.proofs.ItemwiseLemmas.{steps_each, steps_none}
use Rattle.lrpar_table_conditions.proofs.completeness_test.Completeness.goes_to.Goals as goal

pub returns-in-Some : goal.returns-in-Some
returns-in-Some g c =
    let index = g.StorageT.StorageIndex.index in
    let goes = sym c.in-Some.ensures.goto in
    steps_each c.args.self.now.sgraph.now c.args.self.now.stable.now (index c.args.s.0) (Nonterminal (index c.args.rule.0)) (index c.in-Some.next.0)
    (index c.args.pidx.0) c.args.dot c.has_advanced.result goes
    (λ n other. let both : Some n ≡ Some (index c.in-Some.next.0) = sym other ∙ goes in cc) c.has_advanced.ensures

pub returns-in-None : goal.returns-in-None
returns-in-None g c =
    let index = g.StorageT.StorageIndex.index in
    steps_none c.args.self.now.sgraph.now c.args.self.now.stable.now (index c.args.s.0) (Nonterminal (index c.args.rule.0)) (index c.args.pidx.0) c.args.dot
    c.requires.core (λ n goes. let no : None ≡ Some n = c.in-None.ensures.goto ∙ goes in cc)
