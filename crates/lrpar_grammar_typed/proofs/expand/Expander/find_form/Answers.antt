use Rattle.std.proofs.Common.{◌≡◌, ◌∙◌, Some, length, ap, refl, sym, rules}
use Rattle.std.specs.List.{slice_get}
use Rattle.std.proofs.lemmas.Option.{slice_get_read}
use Rattle.lrpar_grammar_typed.specs.Expansion.{IsOfForm, rule_symbol}
use Rattle.lrpar_grammar_typed.proofs.ExpandingLemmas.{ok_then}
use Rattle.lrpar_grammar_typed.proofs.expand.Expander.find_form.Goals as goal

pub returns-in-Some : goal.returns-in-Some
returns-in-Some c =
    let e = c.args.self.now in
    let there : slice_get e.grammar.rules.items c.args.index ≡ Some c.in-Some.rule.now =
    let at = c.in-Some.ensures.lookup in
    ap (λ xs. slice_get xs c.args.index) (sym c.deref.ensures.value)
    ∙ slice_get_read c.deref.result.now (length c.deref.result.now) c.args.index c.in-Some.rule.now refl at.3.0 at.1 in
    let form : c.in-Some.rule.now.form ≡ c.args.form = search rules in
    ok_then c.rule_symbol.result (λ s. s ≡ rule_symbol c.args.index) (IsOfForm e.grammar c.args.form) c.rule_symbol.ensures
    (λ s is. (c.args.index, c.in-Some.rule.now, is, there, form))
