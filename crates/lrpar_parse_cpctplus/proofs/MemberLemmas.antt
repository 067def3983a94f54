-- Members of lists: that a list of things that are apart is no longer than one that has all of them.
use Rattle.std.proofs.Common.{◌≡◌, ◌<◌, ◌≤◌, ◌+◌, ◌∙◌, ◌⊎◌, inl, inr, ℕ, zero, suc, List, [], ◌∷◌, length, get_or, refl, sym, subst, arith}
use Rattle.std.specs.List.{Contains}

-- x is one of these
abbrev pub IsIn : {A : Type 0} → A → List A → Type 0
IsIn x [] = ⊥
IsIn x (y ∷ ys) = (x ≡ y) ⊎ IsIn x ys

-- no two of them are the same
abbrev pub AreApart : {A : Type 0} → List A → Type 0
AreApart [] = Unit {0}
AreApart (x ∷ xs) = ¬ (IsIn x xs) × AreApart xs

module _ {A : Type 0} where
  pub contained : (x : A) (xs : List A) → IsIn x xs → Contains xs x
  contained x [] h = absurd h
  contained x (y ∷ ys) h =
      elim h as (λ _. Contains (y ∷ ys) x) [
        | inl e ↦ (zero, omega arith, sym e)
        | inr rest ↦ let k = contained x ys rest in (suc k.0, omega (arith, k.1), k.2)
      ]

  at_place : (x : A) (xs : List A) (k : ℕ) → k < length xs → get_or xs k x ≡ x → IsIn x xs
  at_place x [] k below e = absurd (omega (arith, below))
  at_place x (y ∷ ys) zero below e = inl (sym e)
  at_place x (y ∷ ys) (suc k) below e = inr (at_place x ys k (omega (arith, below)) e)

  pub is_in : (x : A) (xs : List A) → Contains xs x → IsIn x xs
  is_in x xs h = at_place x xs h.0 h.1 h.2

  -- without x: one less, and all others
  record Without (x : A) (ys : List A) : Type 0 where
    rest : List A
    less : length ys ≡ length rest + 1
    others : (z : A) → IsIn z ys → (z ≡ x) ⊎ IsIn z rest

  without : (x : A) (ys : List A) → IsIn x ys → Without x ys
  without x [] h = absurd h
  without x (y ∷ ys) h =
      elim h as (λ _. Without x (y ∷ ys)) [
        | inl e ↦ record {
          rest = ys;
          less = omega arith;
          others = λ z m. elim m as (λ _. (z ≡ x) ⊎ IsIn z ys) [ inl s ↦ inl (s ∙ sym e) | inr r ↦ inr r ];
        }
        | inr r ↦
            let w = without x ys r in
            record {
              rest = y ∷ w.rest;
              less = omega (arith, w.less);
              others = λ z m. elim m as (λ _. (z ≡ x) ⊎ IsIn z (y ∷ w.rest)) [
                | inl s ↦ inr (inl s)
                | inr q ↦ elim (w.others z q) as (λ _. (z ≡ x) ⊎ IsIn z (y ∷ w.rest)) [ inl s ↦ inl s | inr t ↦ inr (inr t) ]
              ];
            }
      ]

  -- a list of things that are apart is no longer than a list that has all of them
  pub apart_few : (xs ys : List A) → AreApart xs → ((x : A) → IsIn x xs → IsIn x ys) → length xs ≤ length ys
  apart_few [] ys apart all = omega arith
  apart_few (x ∷ xs) ys apart all =
      let w = without x ys (all x (inl refl)) in
      let more : (z : A) → IsIn z xs → IsIn z w.rest = λ z m.
      elim (w.others z (all z (inr m))) as (λ _. IsIn z w.rest) [
        | inl s ↦ absurd (apart.0 (subst (λ (u : A). IsIn u xs) s m))
        | inr r ↦ r
      ] in
      omega (arith, apart_few xs w.rest apart.1 more, w.less)
