-- Lists that say which tokens are to be avoided.
use Rattle.std.proofs.Common.{◌≡◌, ◌<◌, ◌≤◌, ◌+◌, ◌∙◌, ◌⊎◌, ◌↔◌, inl, inr, ℕ, zero, suc, List, [], ◌∷◌, ◌++◌, Bool, true, false, IsTrue, get_or, length, set, take, refl, sym, subst}
use Rattle.std.specs.List.{Contains}
use Rattle.std.proofs.lemmas.Bool.{cases_eq}
use Rattle.std.proofs.lemmas.List.{get_or-set_other, get_or-set_same, take_all}
use Rattle.lrpar_parse_cpctplus.specs.Listing.{AreAvoided}
use Rattle.lrpar_parse_cpctplus.proofs.NumberLemmas.{contains_none, take_before, take_cases, take_this}

-- past its end a list says no
pub says_longer : (xs : List Bool) (t : ℕ) → get_or (xs ++ false ∷ []) t false ≡ get_or xs t false
says_longer [] zero = refl
says_longer [] (suc t) = refl
says_longer (x ∷ xs) zero = refl
says_longer (x ∷ xs) (suc t) = says_longer xs t

-- what is said of one number more
pub says_more : (old xs : List Bool) (n : ℕ) → n < length xs → ((t : ℕ) → get_or xs t false ≡ get_or old t false)
    → (t : ℕ) → IsTrue (get_or (set xs n true) t false) ↔ (IsTrue (get_or old t false) ⊎ (t ≡ n))
says_more old xs n within same t =
    elim (cases_eq t n) as (λ _. IsTrue (get_or (set xs n true) t false) ↔ (IsTrue (get_or old t false) ⊎ (t ≡ n))) [
      | inl e ↦ ((λ h. inr e), (λ h. subst (λ (k : ℕ). IsTrue (get_or (set xs n true) k false)) (sym e) (get_or-set_same xs n true false within)))
      | inr other ↦
          let here : get_or (set xs n true) t false ≡ get_or old t false = get_or-set_other xs n t true false other ∙ same t in (
            (λ h. inl (sym here ∙ h)),
            (λ h. elim h as (λ _. IsTrue (get_or (set xs n true) t false)) [ inl before ↦ here ∙ before | inr e ↦ absurd (other e) ]),
          )
    ]

-- the tokens so far
module _ (tokens : List ℕ) where
  pub avoided_none : (avoided : List Bool) → avoided ≡ [] → AreAvoided avoided (take 0 tokens)
  avoided_none avoided none t = (
    (λ h. let no : false ≡ true = subst (λ (l : List Bool). get_or l t false ≡ true) none h in cc),
    (λ h. absurd (contains_none t h)),
  )

  pub avoided_more : (old new : List Bool) (k n : ℕ) → k < length tokens → n ≡ get_or tokens k n → AreAvoided old (take k tokens)
      → ((t : ℕ) → IsTrue (get_or new t false) ↔ (IsTrue (get_or old t false) ⊎ (t ≡ n))) → AreAvoided new (take (k + 1) tokens)
  avoided_more old new k n within is so says t = (
    (λ h. elim ((says t).0 h) as (λ _. Contains (take (k + 1) tokens) t) [
      | inl before ↦ take_before tokens k n t within ((so t).0 before)
      | inr same ↦ subst (Contains (take (k + 1) tokens)) (sym same) (take_this tokens k n within is)
    ]),
    (λ h. (says t).1 (elim (take_cases tokens k n t within is h) as (λ _. IsTrue (get_or old t false) ⊎ (t ≡ n)) [
      | inl before ↦ inl ((so t).1 before)
      | inr same ↦ inr (sym same)
    ])),
  )

  pub avoided_all : (avoided : List Bool) (k : ℕ) → length tokens ≤ k → AreAvoided avoided (take k tokens) → AreAvoided avoided tokens
  avoided_all avoided k past so = subst (AreAvoided avoided) (take_all k tokens past) so
