-- Elements of lists, of filters, and of what passes a test.
use Rattle.std.proofs.Common.{◌≡◌, zero, suc, ◌⊎◌, Bool, true, List, [], ◌∷◌, map, inl, inr, refl, sym, subst, ◌∙◌, ap, arith}
use Rattle.std.specs.List.{Contains, filter, list_any}
use Rattle.std.proofs.lemmas.Bool.{cases_Bool, cond-false, cond-true, false≢true}
use Rattle.lrpar_names.proofs.BitLemmas.{or_cases}

-- an element of the others
pub member_later : {X : Type 0} (x : X) (xs : List X) (y : X) → Contains xs y → Contains (x ∷ xs) y
member_later x xs y (k, within, is) = (suc k, omega arith, is)

-- an element is the first, or one of the others
pub member_cases : {X : Type 0} (x : X) (xs : List X) (y : X) → Contains (x ∷ xs) y → (x ≡ y) ⊎ Contains xs y
member_cases x xs y (zero, within, is) = inl is
member_cases x xs y (suc k, within, is) = inr (k, omega arith, is)

-- what a filter keeps passes
pub filter_member : {X : Type 0} (p : X → Bool) (xs : List X) (y : X) → Contains (filter p xs) y → Contains xs y
filter_member p [] y (k, within, is) = absurd (omega arith)
filter_member p (x ∷ xs) y has = elim (cases_Bool (p x)) [
  | inl passes ↦ elim (member_cases x (filter p xs) y (subst (λ l. Contains l y) (cond-true (p x) _ _ passes) has)) [
    | inl here ↦ (0, omega arith, here)
    | inr later ↦ member_later x xs y (filter_member p xs y later)
  ]
  | inr fails ↦ member_later x xs y (filter_member p xs y (subst (λ l. Contains l y) (cond-false (p x) _ _ fails) has))
]

-- what passes is kept
pub filter_has : {X : Type 0} (p : X → Bool) (xs : List X) (y : X) → Contains xs y → p y ≡ true → Contains (filter p xs) y
filter_has p [] y (k, within, is) passes = absurd (omega arith)
filter_has p (x ∷ xs) y has passes = elim (cases_Bool (p x)) [
  | inl first ↦ subst (λ l. Contains l y) (sym (cond-true (p x) (x ∷ filter p xs) (filter p xs) first)) (elim (member_cases x xs y has) [
    | inl here ↦ (0, omega arith, here)
    | inr later ↦ member_later x (filter p xs) y (filter_has p xs y later passes)
  ])
  | inr first ↦ subst (λ l. Contains l y) (sym (cond-false (p x) (x ∷ filter p xs) (filter p xs) first)) (elim (member_cases x xs y has) [
    | inl here ↦ absurd (false≢true (sym first ∙ ap p here ∙ passes))
    | inr later ↦ filter_has p xs y later passes
  ])
]

-- a filter before a function, and after it
pub map-filter : {X Y : Type 0} (f : X → Y) (p : Y → Bool) (xs : List X) → map f (filter (λ x. p (f x)) xs) ≡ filter p (map f xs)
map-filter f p [] = refl
map-filter f p (x ∷ xs) = elim (cases_Bool (p (f x))) [
  | inl passes ↦
      ap (map f) (cond-true (p (f x)) (x ∷ filter (λ x. p (f x)) xs) (filter (λ x. p (f x)) xs) passes) ∙ ap (λ ys. f x ∷ ys) (map-filter f p xs)
      ∙ sym (cond-true (p (f x)) (f x ∷ filter p (map f xs)) (filter p (map f xs)) passes)
  | inr fails ↦
      ap (map f) (cond-false (p (f x)) (x ∷ filter (λ x. p (f x)) xs) (filter (λ x. p (f x)) xs) fails) ∙ map-filter f p xs
      ∙ sym (cond-false (p (f x)) (f x ∷ filter p (map f xs)) (filter p (map f xs)) fails)
]

-- an element that passes, if one does
pub any_member : {X : Type 0} (p : X → Bool) (xs : List X) → list_any p xs ≡ true → (x : X) × Contains xs x × (p x ≡ true)
any_member p [] is = absurd (false≢true is)
any_member p (x ∷ xs) is = elim (or_cases (p x) (list_any p xs) is) [
  | inl here ↦ (x, (0, omega arith, refl), here)
  | inr later ↦ let found = any_member p xs later in (found.0, member_later x xs found.0 found.1, found.2)
]
