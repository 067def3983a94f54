use Rattle.std.proofs.Common.{◌≡◌, ◌∙◌, false, get_or, Some, sym, ap}
use Rattle.std.proofs.lemmas.Map.Text.{btree_map_updates_str}
use Rattle.lrpar_grammar_bison.specs.Numbers.{token_number}
use Rattle.lrpar_grammar_bison_rules.specs.declared.rules.TokenNumber.{TokenNumber}
use Rattle.lrpar_grammar_bison_rules.specs.Rules.{number_of}
use Rattle.lrpar_grammar_bison_parts.specs.Numbers.{has_other, with_number}
use Rattle.lrpar_grammar_bison_parts.proofs.MidruleLemmas.{no_word}
use Rattle.lrpar_grammar_bison_parts.proofs.NumberLemmas.{number_more, number_next}
use Rattle.lrpar_grammar_bison_parts.proofs.numbers.check_each.Goals as goal

pub loop-entry-preserved : goal.loop-entry-preserved
loop-entry-preserved c =
    let before = c.loop-entry.invariant in
    let tokens = before.0 in
    let none : TokenNumber = record { token = no_word; number = no_word } in
    let entry = number_of (get_or c.args.numbers.now c.loop-entry.entry-index none) in
    let n = c.in-Some.number in
    let is : token_number entry.number.name ≡ Some n = ap token_number (sym c.as_bytes.ensures.value) ∙ sym c.token_number.ensures ∙ c.in-Some.is in
    let other : has_other tokens entry.token n ≡ false = sym (c.has_other.ensures tokens before.1) ∙ c.if-has_other.false in (
      with_number tokens entry.token n,
      number_more c.loop-entry.found c.insert.new.self tokens entry.token n before.1
          (btree_map_updates_str entry.token.name c.loop-entry.found c.insert.new.self (Some n) c.in_ok-insert.ensures.updates),
      before.2 ∙ number_next tokens c.args.numbers.now c.loop-entry.entry-index none c.loop-entry-test.true n is other,
    )
