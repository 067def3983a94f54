use Rattle.std.proofs.Common.{◌≡◌, ◌∙◌, ◌++◌, List, ap, refl, sym, subst, arith}
use Rattle.std.specs.String.{string_bytes}
use Rattle.std.proofs.lemmas.Option.{get_or_from_slice_get, slice_get_within}
use Rattle.lrpar_grammar_typed.specs.Words.{IsWordAt}
use Rattle.lrpar_grammar_typed.specs.declared.typed.TypedRule.{TypedRule}
use Rattle.lrpar_grammar_typed.proofs.ExpandingLemmas.{image_of}
use Rattle.lrpar_grammar_typed.proofs.expand.Expander.add_prods.Goals as goal

pub index_mut-rule-requires : goal.index_mut-rule-requires
index_mut-rule-requires c =
    let e = c.args.self.now in
    let index = c.in-Some.index.now in
    let word = c.word_at.result.now in
    let rule = image_of (λ r. string_bytes r.name) e.grammar.rules.items index word (c.requires.rules.found index word (sym c.in-Some.ensures.value)) in
    omega (arith, slice_get_within e.grammar.rules.items index rule.0 rule.1, e.grammar.rules.ok.0)

pub returns : goal.returns
returns c =
    let e = c.args.self.now in
    let rules = e.grammar.rules.items in
    let index = c.in-Some.index.now in
    let word = c.word_at.result.now in
    let rule = image_of (λ r. string_bytes r.name) rules index word (c.requires.rules.found index word (sym c.in-Some.ensures.value)) in
    let old = c.index_mut-rule.result.now in
    let is : old ≡ rule.0 = c.index_mut-rule.ensures.value ∙ get_or_from_slice_get rules index rule.0 old rule.1 in
    record {
      text = refl;
      index = index;
      rule = rule.0;
      after = record old { prods = c.append.new.self };
      there = rule.1;
      named = subst (IsWordAt e.text.now c.args.name) (sym rule.2) c.word_at.ensures;
      same_name = ap (λ r. string_bytes r.name) is;
      same_form = ap (λ r. r.form) is;
      prods_are = c.in_ok-append.ensures.items ∙ ap (λ r. r.prods.items ++ c.args.prods.items) is;
      rules = refl {A = List TypedRule};
      tokens = refl;
      indices = refl;
      numbers = refl;
    }
