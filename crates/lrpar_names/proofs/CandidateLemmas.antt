-- Marks of the rules after the dots of cores, and the marked rules.
use Rattle.std.proofs.Common.{◌≡◌, ℕ, zero, suc, ◌+◌, ◌<◌, ◌≤◌, ◌==◌, ◌↔◌, Bool, true, Option, None, Some, List, [], ◌∷◌, ◌++◌, length, inl, inr, sym, subst, ◌∙◌, ap, arith, eqb-true, eq-eqb}
use Rattle.std.specs.List.{Contains, filter, range_with_len}
use Rattle.std.specs.List.Sorted.{IsStrictlyIncreasing}
use Rattle.std.specs.Option.{option_map_or}
use Rattle.std.proofs.lemmas.List.{drop_all}
use Rattle.std.proofs.lemmas.List.Elements.{All-contains, Contains-append_left, Contains-push, Contains-push_cases, filter-append, filter_passes}
use Rattle.std.proofs.lemmas.List.FromFn.{get_or-range_with_len, length-range_with_len}
use Rattle.std.proofs.lemmas.List.Kept.{IsStrictlyIncreasing-filter}
use Rattle.std.proofs.lemmas.Option.{slice_get_past}
use Rattle.lrpar_grammar.specs.Grammar.{Grammar, prods_len, prod_len, symbols_of}
use Rattle.lrpar_grammar.specs.Tokens.{has}
use Rattle.lrpar_table_rows.specs.Graph.{Graph, HasCore}
use Rattle.lrpar_names.specs.Candidates.{AreMarksOf, IsNextIn, IsNextOf, Marks, leading_rule, next_rule}
use Rattle.lrpar_names.proofs.BitLemmas.{in_room, or_cases, or_left, or_right}
use Rattle.lrpar_names.proofs.ListLemmas.{filter_has}

-- past the last symbol there is no rule
pub none_past_end : (g : Grammar) (p k : ℕ) → prod_len g p ≤ k → next_rule g p k ≡ None
none_past_end g p k past = ap leading_rule (drop_all k (symbols_of g p) past)

-- a production that isn't there has no symbols
pub none_past_prods : (g : Grammar) (p k : ℕ) → prods_len g ≤ p → next_rule g p k ≡ None
none_past_prods g p k past =
    let none : symbols_of g p ≡ [] = ap (λ o. option_map_or (λ x. x.symbols) o []) (slice_get_past g.prods p past) in
    none_past_end g p k (subst (λ w. length w ≤ k) (sym none) (omega arith))

some_same : {X : Type 0} (x y : X) (o : Option X) → o ≡ Some x → o ≡ Some y → x ≡ y
some_same x y o is same = cc

-- one core more, after whose dot a rule is
pub marks_more : (g : Grammar) (cores : List (ℕ × ℕ)) (old new : List Bool) (p k r : ℕ) → next_rule g p k ≡ Some r → Marks old new r
    → AreMarksOf g cores old → AreMarksOf g (cores ++ (p, k) ∷ []) new
marks_more g cores old new p k r next marks are q = (
  λ is. elim (or_cases (has old q) (q == r) (sym (marks q) ∙ is)) [
    | inl was ↦ let it : IsNextOf g cores q = (are q).0 was in
        (it.0, it.1, Contains-append_left cores ((p, k) ∷ []) (it.0, it.1) it.2, it.3)
    | inr now ↦ (p, k, Contains-push cores (p, k), next ∙ ap Some (sym (eqb-true q r now)))
  ],
  λ it. elim (Contains-push_cases cores (p, k) (it.0, it.1) it.2) [
    | inl before ↦ marks q ∙ or_left (has old q) (q == r) ((are q).1 (it.0, it.1, before, it.3))
    | inr here ↦
        let same : next_rule g p k ≡ next_rule g it.0 it.1 = ap (λ (c : ℕ × ℕ). next_rule g c.0 c.1) here in
        marks q ∙ or_right (has old q) (q == r) (eq-eqb q r (some_same q r (next_rule g p k) (same ∙ it.3) next))
  ],
)

-- one core more, after whose dot no rule is
pub marks_stay : (g : Grammar) (cores : List (ℕ × ℕ)) (marks : List Bool) (p k : ℕ) → next_rule g p k ≡ None → AreMarksOf g cores marks
    → AreMarksOf g (cores ++ (p, k) ∷ []) marks
marks_stay g cores marks p k none are q = (
  λ is. let it : IsNextOf g cores q = (are q).0 is in (it.0, it.1, Contains-append_left cores ((p, k) ∷ []) (it.0, it.1) it.2, it.3),
  λ it. elim (Contains-push_cases cores (p, k) (it.0, it.1) it.2) [
    | inl before ↦ (are q).1 (it.0, it.1, before, it.3)
    | inr here ↦
        let same : next_rule g p k ≡ next_rule g it.0 it.1 = ap (λ (c : ℕ × ℕ). next_rule g c.0 c.1) here in
        let clash : None ≡ Some q = sym none ∙ same ∙ it.3 in cc
  ],
)

-- one number more
range_more : (a n : ℕ) → range_with_len a (suc n) ≡ range_with_len a n ++ (a + n) ∷ []
range_more a zero =
    let same : a ≡ a + 0 = omega arith in ap (λ b. b ∷ []) same
range_more a (suc n) =
    let same : (a + 1) + n ≡ a + suc n = omega arith in
    ap (λ xs. a ∷ xs) (range_more (a + 1) n) ∙ ap (λ b. (a ∷ range_with_len (a + 1) n) ++ b ∷ []) same

-- one number more is kept, or isn't
pub kept_more : (test : ℕ → Bool) (n : ℕ) → filter test (range_with_len 0 (n + 1)) ≡ filter test (range_with_len 0 n) ++ filter test (n ∷ [])
kept_more test n =
    let next : n + 1 ≡ suc n = omega arith in
    let same : 0 + n ≡ n = omega arith in
    ap (λ m. filter test (range_with_len 0 m)) next ∙ ap (filter test) (range_more 0 n)
    ∙ ap (λ m. filter test (range_with_len 0 n ++ m ∷ [])) same ∙ filter-append test (range_with_len 0 n) (n ∷ [])

-- the kept numbers below n
pub kept_exact : (bits : List Bool) (r : ℕ) → Contains (filter (has bits) (range_with_len 0 (length bits))) r ↔ (has bits r ≡ true)
kept_exact bits r = (
  λ there. All-contains (λ t. has bits t ≡ true) (filter (has bits) (range_with_len 0 (length bits))) r
      (filter_passes (has bits) (range_with_len 0 (length bits))) there,
  λ is.
      let within : r < length bits = in_room bits r is in
      let long : length (range_with_len 0 (length bits)) ≡ length bits = length-range_with_len 0 (length bits) in
      let at : 0 + r ≡ r = omega arith in
      let there : Contains (range_with_len 0 (length bits)) r = (r, omega arith, get_or-range_with_len 0 (length bits) r r within ∙ at) in
      filter_has (has bits) (range_with_len 0 (length bits)) r there is,
)

-- they ascend
pub kept_ascend : (test : ℕ → Bool) (n : ℕ) → IsStrictlyIncreasing (filter test (range_with_len 0 n))
kept_ascend test n =
    IsStrictlyIncreasing-filter test (range_with_len 0 n) (λ k below.
    let long : length (range_with_len 0 n) ≡ n = length-range_with_len 0 n in
    let here = get_or-range_with_len 0 n k 0 (omega arith) in
    let next = get_or-range_with_len 0 n (k + 1) 0 (omega arith) in
    omega arith)

-- the marked rules are those after the dots of a state's items
pub next_exact : (g : Grammar) (graph : Graph) (s : ℕ) (cores : List (ℕ × ℕ)) (bits : List Bool) (rules : List ℕ)
    → ((p k : ℕ) → HasCore graph s p k ↔ Contains cores (p, k)) → AreMarksOf g cores bits
    → rules ≡ filter (has bits) (range_with_len 0 (length bits)) → (r : ℕ) → Contains rules r ↔ IsNextIn g graph s r
next_exact g graph s cores bits rules are marks is r = (
  λ there.
      let it : IsNextOf g cores r = (marks r).0 ((kept_exact bits r).0 (subst (λ l. Contains l r) is there)) in
      (it.0, it.1, (are it.0 it.1).1 it.2, it.3),
  λ it. subst (λ l. Contains l r) (sym is) ((kept_exact bits r).1 ((marks r).1 (it.0, it.1, (are it.0 it.1).0 it.2, it.3))),
)
