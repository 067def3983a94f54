use Rattle.std.proofs.Common.{◌∙◌, refl, sym, subst, length, ap, arith}
use Rattle.std.proofs.lemmas.List.{length_push}
use Rattle.std.specs.String.{string_bytes}
use Rattle.lrpar_grammar_typed.specs.Expanding.{rule_index}
use Rattle.lrpar_grammar_typed.specs.Words.{IsWordAt}
use Rattle.lrpar_grammar_typed.specs.declared.typed.Form.TheVariants.{Written}
use Rattle.lrpar_grammar_typed.proofs.ExpandingLemmas.{added_is_last, adds_begins, declared_more, image_of, some_there}
use Rattle.lrpar_grammar_typed.proofs.expand.Expander.declare_rule.Goals as goal

pub returns-clause-declared : goal.returns-clause-declared
returns-clause-declared c =
    let added = c.in_ok-add_rule.ensures in
    declared_more c.args.self.now c.add_rule.new.self _ c.requires added.sound added.rule refl c.new.ensures.items

pub returns-clause-rules : goal.returns-clause-rules
returns-clause-rules c = adds_begins c.args.self.now c.add_rule.new.self _ c.in_ok-add_rule.ensures.rule

pub returns-clause-defined : goal.returns-clause-defined
returns-clause-defined c =
    let e = c.args.self.now in
    let is = subst (IsWordAt e.text.now c.args.rule) (sym c.in_ok-name.ensures.ok) c.word_at-word.ensures in
    (e.grammar.rules.len, _, added_is_last e c.add_rule.new.self _ c.in_ok-add_rule.ensures.rule, refl, is)

pub returns-then-contains_key-clause-defined : goal.returns-then-contains_key-clause-defined
returns-then-contains_key-clause-defined c =
    let e = c.args.self.now in
    let word = c.word_at-word.result.now in
    let at = some_there (rule_index e word) (sym c.contains_key.ensures ∙ c.if-contains_key.true) in
    let rule = image_of (λ r. string_bytes r.name) e.grammar.rules.items at.0 word (c.requires.sound.rules.found at.0 word at.1) in
    (at.0, rule.0, rule.1, (c.requires.empty at.0 rule.0 rule.1).0, subst (IsWordAt e.text.now c.args.rule) (sym rule.2) c.word_at-word.ensures)

pub returns-clause-one_more : goal.returns-clause-one_more
returns-clause-one_more c =
    let old = c.args.self.now.grammar.rules in
    let new = c.add_rule.new.self.grammar.rules in
    omega (arith, old.ok.0, new.ok.0, ap length c.in_ok-add_rule.ensures.rule.rules, length_push old.items (record { name = c.in_ok-name.name; span = c.args.rule; form = Written; value = c.in_ok-value.value; prods = c.new.result }))
