-- The names and places of rules, as they are kept.
use Rattle.std.proofs.Common.{◌≡◌, ◌≢◌, ◌<◌, ◌-◌, ℕ, zero, suc, List, ◌∷◌, length, map, get_or, Some, refl, ap, sym, subst, ◌∙◌, arith}
use Rattle.std.specs.List.{slice_get}
use Rattle.std.specs.Option.{option_map}
use Rattle.std.proofs.lemmas.List.{length-map}
use Rattle.std.proofs.lemmas.Option.{slice_get-map, slice_get_read}
use Rattle.lrpar_grammar_places.specs.Span.{Extent, nowhere}
use Rattle.lrpar_grammar_reader.specs.declared.parts.RulePart.{RulePart}
use Rattle.lrpar_grammar_reader.specs.Grammar.{Grammar, added_rule, rules_len}
use Rattle.lrpar_grammar_reader.specs.Parts.{rule_name_of}

-- a listed rule, after the added one
listed_rule_at : (rules : List RulePart) (r : ℕ) (part : RulePart) → r ≢ 0 → r - 1 < length rules → part ≡ get_or rules (r - 1) part
    → slice_get (added_rule ∷ map rule_name_of rules) r ≡ Some (rule_name_of part)
listed_rule_at rules zero part listed within is = absurd (listed refl)
listed_rule_at rules (suc r) part listed within is =
    let back : suc r - 1 ≡ r = omega arith in
    let is' : part ≡ get_or rules r part = subst (λ n. part ≡ get_or rules n part) back is in
    slice_get-map rule_name_of rules r ∙ ap (option_map rule_name_of) (slice_get_read rules (length rules) r part refl (omega arith) is')

-- the same in the grammar
pub kept_rule_at : (g : Grammar) (rules : List RulePart) (r n : ℕ) (part : RulePart) → added_rule ∷ map rule_name_of rules ≡ g.rules
    → r ≡ n → r ≢ 0 → n < rules_len g → part ≡ get_or rules (r - 1) part → slice_get g.rules n ≡ Some (rule_name_of part)
kept_rule_at g rules r n part are place listed within is =
    let count : length g.rules ≡ suc (length rules) = sym (ap length are) ∙ ap suc (length-map rules rule_name_of) in
    subst (λ p. slice_get g.rules p ≡ Some (rule_name_of part)) place
    (subst (λ rs. slice_get rs r ≡ Some (rule_name_of part)) are (listed_rule_at rules r part listed (omega arith) is))

-- the added rule in the grammar
pub kept_added_rule : (g : Grammar) (rules : List RulePart) (n : ℕ) → added_rule ∷ map rule_name_of rules ≡ g.rules → n ≡ 0 → slice_get g.rules n ≡ Some added_rule
kept_added_rule g rules n are zeroth = ap (slice_get g.rules) zeroth ∙ sym (ap (λ rs. slice_get rs 0) are)

-- the place of the added rule
pub added_place : (place : Extent) → place.start ≡ 0 → place.end ≡ 0 → place ≡ nowhere
added_place place start end =
    let from_zero : place ≡ record { start = 0; end = place.end } = ap (λ (s : ℕ). record { start = s; end = place.end }) start in
    from_zero ∙ ap (λ (e : ℕ). record { start = 0; end = e }) end
