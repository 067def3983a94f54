-- Sets of tokens by rules, as one of them is changed, and the rules that have any.
use Rattle.std.proofs.Common.{◌≡◌, ◌≢◌, ◌<◌, ◌+◌, ◌⊎◌, arith, inl, inr, refl, sym, subst, ℕ, zero, suc, Bool, List, [], ◌∷◌, get_or, length, drop}
use Rattle.std.proofs.Math.ListN.{set}
use Rattle.std.specs.Prelude.{IsTrue}
use Rattle.std.specs.List.{Contains}
use Rattle.std.proofs.lemmas.Bool.{cases_eq}
use Rattle.lrpar_grammar.specs.Tokens.{has}
use Rattle.lrpar_table_pops.specs.Sets.{HaveNoTokens, HaveTokensAlone, ReplacesTokens, tokens_by}
use Rattle.lrpar_table_pops.proofs.SetLemmas.{set_there, tokens_kept}

-- the set that was read is replaced
pub replaced : (P : List Bool → List Bool → Type 0) (sets : List (List Bool)) (rule : ℕ) (old bits : List Bool) → rule < length sets → old ≡ get_or sets rule old
    → P old bits → ReplacesTokens P rule sets (set sets rule bits)
replaced P sets rule old bits low there p = (bits, refl, subst (λ (o : List Bool). P o bits) (sym (set_there sets rule old low there)) p)

-- the rule was noted, and its set replaced
pub noted_alone : (sets : List (List Bool)) (rule : ℕ) (old bits : List Bool) (rules more : List ℕ) (short now : Bool) → rule < length sets → old ≡ get_or sets rule old
    → HaveTokensAlone sets rules short → ((r : ℕ) → Contains rules r ⊎ IsTrue short → Contains more r ⊎ IsTrue now)
    → (((t : ℕ) → IsTrue (has old t) → Contains rules rule ⊎ IsTrue short) → Contains more rule ⊎ IsTrue now)
    → HaveTokensAlone (set sets rule bits) more now
noted_alone sets rule old bits rules more short now low there alone kept noted r t is =
    elim (cases_eq r rule) as (λ _. Contains more r ⊎ IsTrue now) [
      | inl here ↦
          let own = noted (λ u h. alone rule u (subst (λ (b : List Bool). IsTrue (has b u)) (sym (set_there sets rule old low there)) h)) in
          subst (λ (k : ℕ). Contains more k ⊎ IsTrue now) (sym here) own
      | inr other ↦ kept r (alone r t (subst (λ (b : List Bool). IsTrue (has b t)) (tokens_kept sets rule r bits other) is))
    ]

-- without tokens no rule has any
pub none_alone : (sets : List (List Bool)) (rules : List ℕ) (short : Bool) → HaveNoTokens sets → HaveTokensAlone sets rules short
none_alone sets rules short none r t is = absurd (none r t is)

-- an element of what is left is the first of that, or one of the rest
contains_rest : (xs : List ℕ) (i d r : ℕ) → Contains (drop i xs) r → (r ≡ get_or xs i d) ⊎ Contains (drop (suc i) xs) r
contains_rest [] zero d r (k, inside, at) = absurd (omega (arith, inside))
contains_rest [] (suc i) d r (k, inside, at) = absurd (omega (arith, inside))
contains_rest (y ∷ ys) zero d r (zero, inside, at) = inl (sym at)
contains_rest (y ∷ ys) zero d r (suc k, inside, at) = inr (k, omega (arith, inside), at)
contains_rest (y ∷ ys) (suc i) d r has = contains_rest ys i d r has

-- the tokens of the next rule were removed
pub left_more : (rules : List ℕ) (i d : ℕ) (old new : List (List Bool)) → ((t : ℕ) → ¬ (IsTrue (has (tokens_by new (get_or rules i d)) t)))
    → ((r : ℕ) → r ≢ get_or rules i d → tokens_by new r ≡ tokens_by old r) → ((r t : ℕ) → IsTrue (has (tokens_by old r) t) → Contains (drop i rules) r)
    → (r t : ℕ) → IsTrue (has (tokens_by new r) t) → Contains (drop (i + 1) rules) r
left_more rules i d old new none others left r t has_it =
    elim (cases_eq r (get_or rules i d)) as (λ _. Contains (drop (i + 1) rules) r) [
      | inl here ↦ absurd (none t (subst (λ (k : ℕ). IsTrue (has (tokens_by new k) t)) here has_it))
      | inr other ↦
          elim (contains_rest rules i d r (left r t (subst (λ (b : List Bool). IsTrue (has b t)) (others r other) has_it))) as (λ _. Contains (drop (i + 1) rules) r) [
            | inl same ↦ absurd (other same)
            | inr rest ↦ let next : suc i ≡ i + 1 = omega arith in subst (λ (n : ℕ). Contains (drop n rules) r) next rest
          ]
    ]
