-- Lists that are put together from others, their members and their order; and the first ones of a list that has all things in order.
use Rattle.std.proofs.Common.{◌≡◌, ◌≤◌, ◌-◌, ◌+◌, ◌∙◌, ◌⊎◌, ◌&&◌, inl, inr, ℕ, zero, suc, List, [], ◌∷◌, ◌++◌, Bool, true, false, IsTrue, cond, filter, flat_map, length, take, Some, None, refl, sym, subst, ap, arith, All, AllPairs, Contains}
use Rattle.std.specs.Prelude.{slice_get}
use Rattle.std.proofs.lemmas.List.{append-nil, append_assoc, length-append, length-take}
use Rattle.std.proofs.lemmas.List.Elements.{All-take}
use Rattle.std.proofs.lemmas.List.Kept.{AllPairs-cons}
use Rattle.lrpar_parse_cpctplus.specs.Listing.{AreFirst}
use Rattle.lrpar_parse_cpctplus.specs.Rests.{added_first}
use Rattle.lrpar_parse_cpctplus.proofs.FirstLemmas.{all_members, in_either, in_left, in_right, members_all, pairs_joined}
use Rattle.lrpar_parse_cpctplus.proofs.MemberLemmas.{IsIn, contained, is_in}
use Rattle.lrpar_parse_cpctplus.proofs.OrderLemmas.{pairs_head, pairs_none, pairs_tail}

-- both tests hold
pub both_hold : (a b : Bool) → IsTrue (a && b) → IsTrue a × IsTrue b
both_hold true b h = (refl, h)
both_hold false b h = let f : false ≡ true = h in cc

pub holds_both : (a b : Bool) → IsTrue a → IsTrue b → IsTrue (a && b)
holds_both true b h k = k
holds_both false b h k = let f : false ≡ true = h in cc

-- the members of what is put together of parts
module _ {A B : Type 0} (f : A → List B) where
  pub in_part : (xs : List A) (y : B) → IsIn y (flat_map f xs) → (x : A) × IsIn x xs × IsIn y (f x)
  in_part [] y m = absurd m
  in_part (x ∷ xs) y m =
      elim (in_either y (f x) (flat_map f xs) m) as (λ _. (z : A) × IsIn z (x ∷ xs) × IsIn y (f z)) [
        | inl here ↦ (x, inl refl, here)
        | inr later ↦ let more = in_part xs y later in (more.0, inr more.1, more.2)
      ]

  pub part_in : (xs : List A) (x : A) (y : B) → IsIn x xs → IsIn y (f x) → IsIn y (flat_map f xs)
  part_in [] x y m n = absurd m
  part_in (z ∷ xs) x y m n =
      elim m as (λ _. IsIn y (f z ++ flat_map f xs)) [
        | inl e ↦ in_left y (f z) (flat_map f xs) (subst (λ (w : A). IsIn y (f w)) e n)
        | inr later ↦ in_right y (f z) (flat_map f xs) (part_in xs x y later n)
      ]

  -- their order: the parts are in an order, and so is each of them
  pub pairs_of_parts : (R : B → B → Type 0) (S : A → A → Type 0) (xs : List A) → AllPairs S xs → ((x : A) → IsIn x xs → AllPairs R (f x))
      → ((x y : A) → S x y → (a b : B) → IsIn a (f x) → IsIn b (f y) → R a b) → AllPairs R (flat_map f xs)
  pairs_of_parts R S [] rising each cross = pairs_none R
  pairs_of_parts R S (x ∷ xs) rising each cross =
      pairs_joined R (f x) (flat_map f xs) (each x (inl refl))
      (pairs_of_parts R S xs (pairs_tail S x xs rising) (λ y m. each y (inr m)) cross)
      (λ a b m n.
      let from = in_part xs b n in
      cross x from.0 (all_members (S x) xs (pairs_head S x xs rising) from.0 from.1) a b m from.2)

-- the members that pass a test
module _ {A : Type 0} (p : A → Bool) where
  kept_in : (b : Bool) (x : A) (xs ys : List A) (y : A) → p x ≡ b → IsIn y (cond b (x ∷ xs) xs) → ((z : A) → IsIn z xs → IsIn z ys × (p z ≡ true))
      → IsIn y (x ∷ ys) × (p y ≡ true)
  kept_in true x xs ys y e m later =
      elim m as (λ _. IsIn y (x ∷ ys) × (p y ≡ true)) [
        | inl same ↦ (inl same, ap p same ∙ e)
        | inr rest ↦ let more = later y rest in (inr more.0, more.1)
      ]
  kept_in false x xs ys y e m later = let more = later y m in (inr more.0, more.1)

  pub passes_in : (xs : List A) (y : A) → IsIn y (filter p xs) → IsIn y xs × (p y ≡ true)
  passes_in [] y m = absurd m
  passes_in (x ∷ xs) y m = kept_in (p x) x (filter p xs) xs y refl m (passes_in xs)

  keeps : (b : Bool) (x : A) (xs : List A) (y : A) → IsIn y xs → IsIn y (cond b (x ∷ xs) xs)
  keeps true x xs y m = inr m
  keeps false x xs y m = m

  pub in_passes : (xs : List A) (y : A) → IsIn y xs → p y ≡ true → IsIn y (filter p xs)
  in_passes [] y m e = absurd m
  in_passes (x ∷ xs) y m e =
      elim m as (λ _. IsIn y (filter p (x ∷ xs))) [
        | inl same ↦ subst (λ (b : Bool). IsIn y (cond b (x ∷ filter p xs) (filter p xs))) (sym (ap p (sym same) ∙ e)) (inl same)
        | inr later ↦ keeps (p x) x (filter p xs) y (in_passes xs y later e)
      ]

-- places in a list
module _ {A : Type 0} where
  pub place_of : (xs : List A) (x : A) → IsIn x xs → (k : ℕ) × (slice_get xs k ≡ Some x)
  place_of [] x m = absurd m
  place_of (y ∷ xs) x m =
      elim m as (λ _. (k : ℕ) × (slice_get (y ∷ xs) k ≡ Some x)) [
        | inl e ↦ (zero, ap (λ (z : A). Some z) (sym e))
        | inr later ↦ let more = place_of xs x later in (suc more.0, more.1)
      ]

  no_none : (x : A) → ¬ (None ≡ Some x)
  no_none x e = cc

  pub at_place_in : (xs : List A) (k : ℕ) (x : A) → slice_get xs k ≡ Some x → IsIn x xs
  at_place_in [] k x e = absurd (no_none x e)
  at_place_in (y ∷ xs) zero x e = let same : y ≡ x = cc in inl (sym same)
  at_place_in (y ∷ xs) (suc k) x e = inr (at_place_in xs k x e)

  pub one_at_place : (xs : List A) (k : ℕ) (x y : A) → slice_get xs k ≡ Some x → slice_get xs k ≡ Some y → x ≡ y
  one_at_place xs k x y e f = let same : Some x ≡ Some y = sym e ∙ f in cc

  -- a thing that is there once has one place
  pub one_place : (xs : List A) (j k : ℕ) (x : A) → AllPairs (λ y z. ¬ (y ≡ z)) xs → slice_get xs j ≡ Some x → slice_get xs k ≡ Some x → j ≡ k
  one_place [] j k x once e f = absurd (no_none x e)
  one_place (y ∷ xs) zero zero x once e f = refl
  one_place (y ∷ xs) zero (suc k) x once e f =
      let same : y ≡ x = cc in
      absurd (all_members (λ z. ¬ (y ≡ z)) xs (pairs_head (λ z w. ¬ (z ≡ w)) y xs once) x (at_place_in xs k x f) same)
  one_place (y ∷ xs) (suc j) zero x once e f =
      let same : y ≡ x = cc in
      absurd (all_members (λ z. ¬ (y ≡ z)) xs (pairs_head (λ z w. ¬ (z ≡ w)) y xs once) x (at_place_in xs j x e) same)
  one_place (y ∷ xs) (suc j) (suc k) x once e f = ap suc (one_place xs j k x (pairs_tail (λ z w. ¬ (z ≡ w)) y xs once) e f)

-- the first ones
module _ {A : Type 0} where
  taken_in : (n : ℕ) (xs : List A) (x : A) → IsIn x (take n xs) → IsIn x xs
  taken_in zero xs x m = absurd m
  taken_in (suc n) [] x m = absurd m
  taken_in (suc n) (y ∷ xs) x m = elim m as (λ _. IsIn x (y ∷ xs)) [ inl e ↦ inl e | inr later ↦ inr (taken_in n xs x later) ]

  pairs_taken : (R : A → A → Type 0) (n : ℕ) (xs : List A) → AllPairs R xs → AllPairs R (take n xs)
  pairs_taken R zero xs h = pairs_none R
  pairs_taken R (suc n) [] h = pairs_none R
  pairs_taken R (suc n) (x ∷ xs) h =
      AllPairs-cons R x (take n xs) (All-take (R x) n xs (pairs_head R x xs h)) (pairs_taken R n xs (pairs_tail R x xs h))

  taken_or_after : (R : A → A → Type 0) (n : ℕ) (xs : List A) (x : A) → AllPairs R xs → IsIn x xs
      → IsIn x (take n xs) ⊎ ((length (take n xs) ≡ n) × ((y : A) → IsIn y (take n xs) → R y x))
  taken_or_after R zero xs x h m = inr (refl, λ y k. absurd k)
  taken_or_after R (suc n) [] x h m = absurd m
  taken_or_after R (suc n) (z ∷ xs) x h m =
      elim m as (λ _. IsIn x (z ∷ take n xs) ⊎ ((suc (length (take n xs)) ≡ suc n) × ((y : A) → IsIn y (z ∷ take n xs) → R y x))) [
        | inl e ↦ inl (inl e)
        | inr later ↦ elim (taken_or_after R n xs x (pairs_tail R z xs h) later)
            as (λ _. IsIn x (z ∷ take n xs) ⊎ ((suc (length (take n xs)) ≡ suc n) × ((y : A) → IsIn y (z ∷ take n xs) → R y x))) [
              | inl here ↦ inl (inr here)
              | inr after ↦ inr (
                ap suc after.0,
                λ y k.
                    elim k as (λ _. R y x) [
                      | inl e ↦ subst (λ (w : A). R w x) (sym e) (all_members (R z) xs (pairs_head R z xs h) x later)
                      | inr there ↦ after.1 y there
                    ],
              )
            ]
      ]

  -- of a list that has all of them, in order, or at least as many, after which the others come
  pub first_taken : (R : A → A → Type 0) (n : ℕ) (P : A → Type 0) (xs : List A) → AllPairs R xs → ((x : A) → IsIn x xs → P x)
      → ((x : A) → P x → IsIn x xs ⊎ ((n ≤ length xs) × ((y : A) → IsIn y xs → R y x))) → AreFirst n P R (take n xs)
  first_taken R n P xs pairs each all = record {
    few = omega (arith, length-take n xs);
    each = λ x m. each x (taken_in n xs x (is_in x (take n xs) m));
    ordered = pairs_taken R n xs pairs;
    others = λ x p.
        elim (all x p) as (λ _. Contains (take n xs) x ⊎ ((length (take n xs) ≡ n) × All (λ y. R y x) (take n xs))) [
          | inl within ↦ elim (taken_or_after R n xs x pairs within)
              as (λ _. Contains (take n xs) x ⊎ ((length (take n xs) ≡ n) × All (λ y. R y x) (take n xs))) [
                | inl here ↦ inl (contained x (take n xs) here)
                | inr after ↦ inr (after.0, members_all (λ y. R y x) (take n xs) after.1)
              ]
          | inr past ↦ inr (omega (arith, length-take n xs, past.0), members_all (λ y. R y x) (take n xs) (λ y m. past.1 y (taken_in n xs y m)))
        ];
  }

  -- those added in two parts
  take_joined : (n : ℕ) (xs ys : List A) → take n xs ++ take (n - length (take n xs)) ys ≡ take n (xs ++ ys)
  take_joined zero xs ys = ap (λ (m : ℕ). take m ys) (let e : 0 - 0 ≡ 0 = omega arith in e)
  take_joined (suc n) [] ys = ap (λ (m : ℕ). take m ys) (let e : suc n - 0 ≡ suc n = omega arith in e)
  take_joined (suc n) (x ∷ xs) ys =
      let e : suc n - suc (length (take n xs)) ≡ n - length (take n xs) = omega arith in
      ap (λ (m : ℕ). x ∷ (take n xs ++ take m ys)) e ∙ ap (λ (l : List A). x ∷ l) (take_joined n xs ys)

  pub added_joined : (most : ℕ) (before xs ys : List A) → added_first most (added_first most before xs) ys ≡ added_first most before (xs ++ ys)
  added_joined most before xs ys =
      let n = most - length before in
      let long : length (before ++ take n xs) ≡ length before + length (take n xs) = length-append before (take n xs) in
      let e : most - length (before ++ take n xs) ≡ n - length (take n xs) = omega (arith, long) in
      ap (λ (m : ℕ). (before ++ take n xs) ++ take m ys) e ∙ append_assoc before (take n xs) (take (n - length (take n xs)) ys)
      ∙ ap (λ (l : List A). before ++ l) (take_joined n xs ys)

  pub added_none : (most : ℕ) (before : List A) → added_first most before [] ≡ before
  added_none most before = ap (λ (l : List A). before ++ l) (take_none (most - length before) [] refl) ∙ append-nil before
    where
      take_none : (n : ℕ) (xs : List A) → xs ≡ [] → take n xs ≡ []
      take_none zero xs e = refl
      take_none (suc n) [] e = refl
      take_none (suc n) (x ∷ xs) e = absurd (let f : x ∷ xs ≡ [] = e in cc)

  pub added_from_none : (most : ℕ) (xs : List A) → added_first most [] xs ≡ take most xs
  added_from_none most xs = ap (λ (m : ℕ). take m xs) (let e : most - 0 ≡ most = omega arith in e)
