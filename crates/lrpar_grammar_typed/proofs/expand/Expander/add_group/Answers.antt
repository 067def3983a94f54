use Rattle.std.proofs.Common.{refl}
use Rattle.lrpar_grammar_typed.specs.Expanding.{IsGroupOf}
use Rattle.lrpar_grammar_typed.proofs.ExpandingLemmas.{if_ok, last_is}
use Rattle.lrpar_grammar_typed.proofs.expand.Expander.add_group.Goals as goal

pub returns-clause-symbol : goal.returns-clause-symbol
returns-clause-symbol c =
    let rules = c.args.self.now.grammar.rules in
    if_ok c.add_rule.result _ (IsGroupOf c.add_rule.new.self.grammar c.args.prods) c.add_rule.ensures.rule c.add_rule.ensures.symbol
    (λ adds symbol is. (rules.len, _, is, last_is c.add_rule.new.self.grammar.rules.items rules.items _ rules.len adds.rules rules.ok.0, refl, refl))
