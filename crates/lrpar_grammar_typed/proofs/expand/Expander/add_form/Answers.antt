use Rattle.std.proofs.Common.{refl}
use Rattle.lrpar_grammar_typed.specs.Expansion.{IsOfForm}
use Rattle.lrpar_grammar_typed.proofs.ExpandingLemmas.{extends_rule, if_ok, last_is, on_ok}
use Rattle.lrpar_grammar_typed.proofs.expand.Expander.add_form.Goals as goal

pub returns-clause-extends : goal.returns-clause-extends
returns-clause-extends c =
    on_ok c.add_rule.result c.add_rule.ensures.rule (λ adds. extends_rule c.args.self.now c.add_rule.new.self _ adds c.requires.made)

pub returns-clause-symbol : goal.returns-clause-symbol
returns-clause-symbol c =
    let rules = c.args.self.now.grammar.rules in
    if_ok c.add_rule.result _ (IsOfForm c.add_rule.new.self.grammar c.args.form) c.add_rule.ensures.rule c.add_rule.ensures.symbol
    (λ adds symbol is. (rules.len, _, is, last_is c.add_rule.new.self.grammar.rules.items rules.items _ rules.len adds.rules rules.ok.0, refl))

pub add_rule-requires-clause-apart : goal.add_rule-requires-clause-apart
add_rule-requires-clause-apart c = λ written. absurd (c.requires.made written)
