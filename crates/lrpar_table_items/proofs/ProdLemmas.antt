-- The productions of a rule.
use Rattle.std.proofs.Common.{◌≡◌, ◌<◌, ◌+◌, ◌∙◌, refl, sym, ap, subst, inl, inr, arith, ℕ, zero, suc, Bool, List, [], ◌∷◌, Some, cond, get_or, length, slice_get}
use Rattle.std.specs.List.{Contains}
use Rattle.std.specs.Option.{option_map_or}
use Rattle.std.proofs.lemmas.Bool.{cases_eq, cases_lt, eq-eqb, ne_eqb}
use Rattle.std.proofs.lemmas.List.Elements.{Contains-append_cases, Contains-append_right}
use Rattle.std.proofs.lemmas.Option.{slice_get_cases, slice_get_within}
use Rattle.lrpar_grammar_places.specs.declared.span.PIdx.{PIdx}
use Rattle.lrpar_grammar.specs.Grammar.{Grammar, IsWellFormed, Production, prods_from, prods_len, prods_of, rule_of, rules_len, start_prod}
use Rattle.lrpar_grammar.specs.Symbols.{prod_numbers}
use Rattle.lrpar_table_rows.proofs.ItemLemmas.{Contains-image}

-- the productions of a rule are listed
rule_listed : (r n : ℕ) (xs : List Production) (i : ℕ) (x : Production) → slice_get xs i ≡ Some x → x.rule ≡ r → Contains (prods_from r n xs) (n + i)
rule_listed r n [] i x at is = absurd (let low = slice_get_within [] i x at in omega arith)
rule_listed r n (y ∷ ys) zero x at is =
    let same : y ≡ x = cc in
    let here = eq-eqb y.rule r (ap (λ (z : Production). z.rule) same ∙ is) in
    subst (λ (b : Bool). Contains (cond b (n ∷ prods_from r (n + 1) ys) (prods_from r (n + 1) ys)) (n + 0)) (sym here) (0, omega arith, omega arith)
rule_listed r n (y ∷ ys) (suc i) x at is =
    let later = rule_listed r (n + 1) ys i x at is in
    let same : (n + 1) + i ≡ n + suc i = omega arith in
    let there = subst (Contains (prods_from r (n + 1) ys)) same later in
    elim (cases_eq y.rule r) as (λ _. Contains (prods_from r n (y ∷ ys)) (n + suc i)) [
      | inl own ↦
          subst (λ (b : Bool). Contains (cond b (n ∷ prods_from r (n + 1) ys) (prods_from r (n + 1) ys)) (n + suc i)) (sym (eq-eqb y.rule r own))
          (Contains-append_right (n ∷ []) (prods_from r (n + 1) ys) (n + suc i) there)
      | inr other ↦
          subst (λ (b : Bool). Contains (cond b (n ∷ prods_from r (n + 1) ys) (prods_from r (n + 1) ys)) (n + suc i)) (sym (ne_eqb y.rule r other)) there
    ]

first_is : (n p : ℕ) → Contains (n ∷ []) p → p ≡ n + 0
first_is n p (zero, low, is) = let same : n ≡ p = is in omega arith
first_is n p (suc k, low, is) = absurd (omega arith)

listed_of_rule : (r n : ℕ) (xs : List Production) (p : ℕ) → Contains (prods_from r n xs) p
    → (i : ℕ) × (x : Production) × (p ≡ n + i) × (slice_get xs i ≡ Some x) × (x.rule ≡ r)
listed_of_rule r n [] p has_one = absurd (let low = has_one.1 in omega arith)
listed_of_rule r n (y ∷ ys) p has_one =
    let Found = (i : ℕ) × (x : Production) × (p ≡ n + i) × (slice_get (y ∷ ys) i ≡ Some x) × (x.rule ≡ r) in
    let later = λ (h : Contains (prods_from r (n + 1) ys) p).
    let more = listed_of_rule r (n + 1) ys p h in
    let at : p ≡ n + suc more.0 = let is = more.2 in omega arith in
    let found : Found = (suc more.0, more.1, at, more.3, more.4) in found in
    elim (cases_eq y.rule r) as (λ _. Found) [
      | inl own ↦
          let here = subst (λ (b : Bool). Contains (cond b (n ∷ prods_from r (n + 1) ys) (prods_from r (n + 1) ys)) p) (eq-eqb y.rule r own) has_one in
          elim (Contains-append_cases (n ∷ []) (prods_from r (n + 1) ys) p here) as (λ _. Found) [
            | inl first ↦ let at : p ≡ n + 0 = first_is n p first in (0, y, at, refl, own)
            | inr rest ↦ later rest
          ]
      | inr other ↦
          later (subst (λ (b : Bool). Contains (cond b (n ∷ prods_from r (n + 1) ys) (prods_from r (n + 1) ys)) p) (ne_eqb y.rule r other) has_one)
    ]

module _ (g : Grammar) where
  -- the productions that are listed for a rule are those of the rule, and no others
  pub in_prods : (r p : ℕ) → p < prods_len g → rule_of g p ≡ r → Contains (prods_of g r) p
  in_prods r p low is =
      elim (slice_get_cases g.prods p).1 as (λ _. Contains (prods_of g r) p) [
        | inl found ↦
            let own : found.0.rule ≡ r = sym (ap (λ o. option_map_or (λ (x : Production). x.rule) o 0) found.2) ∙ is in
            let there = rule_listed r 0 g.prods p found.0 found.2 own in
            let same : 0 + p ≡ p = omega arith in subst (Contains (prods_of g r)) same there
        | inr past ↦ let far = past.0 in absurd (omega (arith, low, far))
      ]

  pub of_prods : (r p : ℕ) → Contains (prods_of g r) p → (p < prods_len g) × (rule_of g p ≡ r)
  of_prods r p listed =
      let found = listed_of_rule r 0 g.prods p listed in
      let same : p ≡ found.0 = let is = found.2 in omega arith in
      let at : slice_get g.prods p ≡ Some found.1 = subst (λ (n : ℕ). slice_get g.prods n ≡ Some found.1) (sym same) found.3 in
      (slice_get_within g.prods p found.1 at, ap (λ o. option_map_or (λ (x : Production). x.rule) o 0) at ∙ found.4)

-- so is one that was read from this list
pub listed_at : {S : Type 0} (index : S → ℕ) (g : Grammar) (r : ℕ) (prods : List (PIdx S)) (i : ℕ) (pidx : PIdx S) → prod_numbers index prods ≡ prods_of g r
    → i < length prods → pidx ≡ get_or prods i pidx → (index pidx.0 < prods_len g) × (rule_of g (index pidx.0) ≡ r)
listed_at index g r prods i pidx are low is =
    of_prods g r (index pidx.0) (subst (λ (xs : List ℕ). Contains xs (index pidx.0)) are (Contains-image (λ p. index p.0) prods pidx (i, low, sym is)))

-- the rule of a production is one of the grammar
pub rule_below : (g : Grammar) → IsWellFormed g → (p : ℕ) → p < prods_len g → rule_of g p < rules_len g
rule_below g well p known =
    elim (cases_lt p (start_prod g)) as (λ _. rule_of g p < rules_len g) [
      | inl listed ↦ well.rule_within p listed
      | inr last ↦
          let is : p ≡ start_prod g = omega (arith, known, last) in
          let none = ap (rule_of g) is ∙ well.last_rule in
          let start = well.start_within in omega (arith, none, start)
    ]
