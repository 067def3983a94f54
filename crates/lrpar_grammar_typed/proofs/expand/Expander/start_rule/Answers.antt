use Rattle.std.proofs.Common.{◌≡◌, ◌+◌, sym, subst}
use Rattle.lrpar_grammar_typed.specs.Expansion.{IsStart, rule_names}
use Rattle.lrpar_grammar_typed.proofs.ExpandingLemmas.{ok_then}
use Rattle.lrpar_grammar_typed.proofs.expand.Expander.start_rule.Goals as goal

pub returns-in-Some-get : goal.returns-in-Some-get
returns-in-Some-get c =
    let e = c.args.self.now in
    let names = rule_names e.grammar in
    let index = c.in-Some-get.index.now in
    let word = c.word_at.result.now in
    let found = c.requires.rules.found index word (sym c.in-Some-get.ensures.value) in
    ok_then c.rule_number.result (λ rule. rule.0 ≡ index + 1) (IsStart e.text.now c.args.start names) c.rule_number.ensures
    (λ rule is. subst (λ s. IsStart e.text.now s names rule) (sym c.in-Some.is) (index, word, c.word_at.ensures, found, is))
