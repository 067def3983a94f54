use Rattle.std.proofs.Common.{◌≡◌, sym, subst}
use Rattle.lrpar_grammar_typed.specs.Expansion.{IsMeant, IsRuleMeant, IsTokenMeant, rule_symbol}
use Rattle.lrpar_grammar_typed.proofs.ExpandingLemmas.{ok_then}
use Rattle.lrpar_grammar_typed.proofs.expand.Expander.find_symbol.Goals as goal

pub returns-in-Some-clause-symbol : goal.returns-in-Some-clause-symbol
returns-in-Some-clause-symbol c =
    let e = c.args.self.now in
    let name = c.word_at-name.result.now in
    let there = c.requires.rules.found c.in-Some.index.now name (sym c.in-Some.ensures.value) in
    ok_then c.rule_symbol.result (λ s. s ≡ rule_symbol c.in-Some.index.now) (IsMeant e.text.now e.grammar c.args.mention) c.rule_symbol.ensures
    (λ s is. subst (IsMeant e.text.now e.grammar c.args.mention) (sym is)
    (IsRuleMeant c.in-Some.index.now name c.if-not-mention.true c.word_at-name.ensures there))

pub returns-clause-symbol : goal.returns-clause-symbol
returns-clause-symbol c =
    let is = c.in_ok-number_token.ensures.token in
    IsTokenMeant c.in_ok-number_token.field-0.0 is.0 is.1 is.2
