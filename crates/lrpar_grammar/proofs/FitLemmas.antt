-- The places of a grammar, as they are kept.
use Rattle.std.proofs.Common.{◌≡◌, ◌<◌, ◌+◌, ◌-◌, ℕ, suc, List, ◌∷◌, length, map, get_or, ap, sym, ◌∙◌, arith, inl, inr}
use Rattle.std.specs.List.{All}
use Rattle.std.specs.Str.{IsUtf8}
use Rattle.std.proofs.lemmas.Bool.{cases_eq}
use Rattle.std.proofs.lemmas.Str.{IsCharBoundary-start}
use Rattle.std.proofs.lemmas.List.Elements.{All-cons, All-map}
use Rattle.lrpar_grammar_places.specs.Span.{Extent, IsPartOf}
use Rattle.lrpar_grammar.specs.declared.grammar.prods.SplitProd.{SplitProd}
use Rattle.lrpar_grammar_reader.specs.declared.parts.RulePart.{RulePart}
use Rattle.lrpar_grammar_reader.specs.declared.parts.TokenPart.{TokenPart}
use Rattle.lrpar_grammar_reader.specs.Grammar.{added_rule, RuleName, TokenName}
use Rattle.lrpar_grammar.specs.Kept.{split_prod_of}
use Rattle.lrpar_grammar_reader.specs.Parts.{rule_name_of, token_name_of}
use Rattle.lrpar_grammar_reader.specs.SpansFit.{AreSpansInOrder, ProductionFits}
use Rattle.lrpar_grammar_places.proofs.ListLemmas.{All-map-at}

-- the places of all rules: the added one is at the start of every text
pub rules_fit_all : (src : List ℕ) (rules : List RulePart) → IsUtf8 src → All (λ r. IsPartOf src r.span) rules
    → All (λ r. IsPartOf src r.span) (added_rule ∷ map rule_name_of rules)
rules_fit_all src rules utf8 fit =
    let at = IsCharBoundary-start src utf8 in
    All-cons (λ r. IsPartOf src r.span) added_rule (map rule_name_of rules) (record { start = at; end = at })
    (All-map (λ r. IsPartOf src r.span) rule_name_of rules fit)

-- and of the listed rules alone
pub rules_fit_listed : (src : List ℕ) (rules : List RulePart) → All (λ r. IsPartOf src r.span) (added_rule ∷ map rule_name_of rules)
    → All (λ r. IsPartOf src r.span) rules
rules_fit_listed src rules fit k d within =
    All-map-at {Y = RuleName} (λ r. IsPartOf src r.span) rule_name_of rules
    (λ j e inside. fit (suc j) e (omega (arith, inside))) k d within

-- the places of the kept tokens
pub tokens_fit_listed : (src : List ℕ) (tokens : List TokenPart) → All (λ t. IsPartOf src t.span) (map token_name_of tokens) → All (λ t. IsPartOf src t.span) tokens
tokens_fit_listed src tokens fit k d within = All-map-at {Y = TokenName} (λ t. IsPartOf src t.span) token_name_of tokens fit k d within

-- and of the kept productions
pub prods_fit_listed : {S : Type 0} (index : S → ℕ) (src : List ℕ) (prods : List (SplitProd S)) → All (ProductionFits src) (map (split_prod_of index) prods)
    → All (λ p. ProductionFits src (split_prod_of index p)) prods
prods_fit_listed index src prods fit k d within = All-map-at (ProductionFits src) (split_prod_of index) prods fit k d within

-- a part that starts before the end of the part before it is out of order
pub order_fails : (spans : List Extent) (i end : ℕ) (span : Extent) → (i ≡ 0 → end ≡ 0) → ((d : Extent) → 0 < i → (get_or spans (i - 1) d).end ≡ end)
    → i < length spans → span ≡ get_or spans i span → span.start < end → AreSpansInOrder spans → ⊥
order_fails spans i end span first last within is early order =
    elim (cases_eq i 0) [
      | inl none ↦ let zero = first none in omega arith
      | inr some ↦
          let next : (i - 1) + 1 ≡ i = omega arith in
          let after = order (i - 1) span (omega arith) in
          let at : (get_or spans (i - 1) span).end ≡ end = last span (omega arith) in
          let here : (get_or spans ((i - 1) + 1) span).start ≡ span.start = ap (λ n. (get_or spans n span).start) next ∙ sym (ap (λ x. x.start) is) in
          omega arith
    ]
