-- Lists by numbers: that no two numbers have the same, and what is added to a list.
use Rattle.std.proofs.Common.{◌≡◌, ◌==◌, ◌≢◌, ◌<◌, ◌+◌, ◌∙◌, ◌⊎◌, inl, inr, true, false, ℕ, zero, suc, List, [], ◌∷◌, ◌++◌, Some, length, get_or, slice_get, take, map, refl, sym, subst, ap, arith, append-nil, append_assoc}
use Rattle.std.specs.List.{AllPairs, Contains}
use Rattle.std.proofs.lemmas.Bool.{eqb-true}
use Rattle.std.proofs.lemmas.List.{get_or-map, length-map, take_more}
use Rattle.std.proofs.lemmas.List.Elements.{Contains-append_cases, Contains-append_left, Contains-append_right, Contains-push, Contains-push_cases}
use Rattle.std.proofs.lemmas.Option.{get_or_from_slice_get, none-some, same_Some, slice_get-get_or, slice_get_within}
use Rattle.lrpar_parse_cpctplus.specs.SearchRound.{Adds, AreOnce}

module _ {A : Type 0} where
  pub contains_at : (xs : List A) (i : ℕ) (x : A) → slice_get xs i ≡ Some x → Contains xs x
  contains_at xs i x at = (i, slice_get_within xs i x at, get_or_from_slice_get xs i x x at)

  pub at_contained : (xs : List A) (x : A) → Contains xs x → (i : ℕ) × (slice_get xs i ≡ Some x)
  at_contained xs x h = (h.0, slice_get-get_or xs h.0 x h.1 ∙ ap (λ (y : A). Some y) h.2)

  pub contains_none : (x : A) → ¬ (Contains [] x)
  contains_none x h = omega (arith, h.1)

  -- an element of two lists, one after the other
  pub at_left : (xs ys : List A) (i : ℕ) (x : A) → slice_get xs i ≡ Some x → slice_get (xs ++ ys) i ≡ Some x
  at_left [] ys i x at = absurd (none-some x at)
  at_left (z ∷ zs) ys zero x at = at
  at_left (z ∷ zs) ys (suc i) x at = at_left zs ys i x at

  pub at_cases : (xs ys : List A) (i : ℕ) (x : A) → slice_get (xs ++ ys) i ≡ Some x
      → (slice_get xs i ≡ Some x) ⊎ ((k : ℕ) × (i ≡ length xs + k) × (slice_get ys k ≡ Some x))
  at_cases [] ys i x at = inr (i, omega arith, at)
  at_cases (z ∷ zs) ys zero x at = inl at
  at_cases (z ∷ zs) ys (suc i) x at =
      elim (at_cases zs ys i x at) as (λ _. (slice_get (z ∷ zs) (suc i) ≡ Some x) ⊎ ((k : ℕ) × (suc i ≡ length (z ∷ zs) + k) × (slice_get ys k ≡ Some x))) [
        | inl h ↦ inl h
        | inr h ↦ inr (h.0, omega (arith, h.1), h.2)
      ]

  pub at_within : (xs ys : List A) (i : ℕ) (x : A) → i < length xs → slice_get (xs ++ ys) i ≡ Some x → slice_get xs i ≡ Some x
  at_within xs ys i x below at =
      elim (at_cases xs ys i x at) as (λ _. slice_get xs i ≡ Some x) [ inl h ↦ h | inr h ↦ absurd (omega (arith, h.1, below)) ]

  pub single : (x y : A) (k : ℕ) → slice_get (x ∷ []) k ≡ Some y → (k ≡ 0) × (x ≡ y)
  single x y zero at = (refl, same_Some x y at)
  single x y (suc k) at = absurd (none-some y at)

  -- of a list with one more
  pub push_cases : (xs : List A) (x y : A) (i : ℕ) → slice_get (xs ++ x ∷ []) i ≡ Some y → (slice_get xs i ≡ Some y) ⊎ ((i ≡ length xs) × (x ≡ y))
  push_cases xs x y i at =
      elim (at_cases xs (x ∷ []) i y at) as (λ _. (slice_get xs i ≡ Some y) ⊎ ((i ≡ length xs) × (x ≡ y))) [
        | inl h ↦ inl h
        | inr h ↦ let one = single x y h.0 h.2 in inr (omega (arith, h.1, one.0), one.1)
      ]

  pub at_end : (xs : List A) (x : A) → slice_get (xs ++ x ∷ []) (length xs) ≡ Some x
  at_end [] x = refl
  at_end (z ∷ zs) x = at_end zs x

  -- no two numbers have the same
  pub once_pairs : (xs : List A) → AreOnce xs → AllPairs (λ x y. x ≢ y) xs
  once_pairs xs once i j d before below = λ same.
      let one = once i j (get_or xs i d) (slice_get-get_or xs i d (omega (arith, before, below)))
      (slice_get-get_or xs j d below ∙ ap (λ (y : A). Some y) (sym same)) in
      omega (arith, one, before)

  pub once_none : AreOnce {A = A} []
  once_none i j x at other = absurd (none-some x at)

  pub once_single : (x : A) → AreOnce (x ∷ [])
  once_single x i j y at other = omega (arith, (single x y i at).0, (single x y j other).0)

  pub once_append : (xs ys : List A) → AreOnce xs → AreOnce ys → ((x : A) → Contains xs x → ¬ (Contains ys x)) → AreOnce (xs ++ ys)
  once_append xs ys one other apart i j x at there =
      elim (at_cases xs ys i x at) as (λ _. i ≡ j) [
        | inl a ↦ elim (at_cases xs ys j x there) as (λ _. i ≡ j) [
          | inl b ↦ one i j x a b
          | inr b ↦ absurd (apart x (contains_at xs i x a) (contains_at ys b.0 x b.2))
        ]
        | inr a ↦ elim (at_cases xs ys j x there) as (λ _. i ≡ j) [
          | inl b ↦ absurd (apart x (contains_at xs j x b) (contains_at ys a.0 x a.2))
          | inr b ↦ omega (arith, a.1, b.1, other a.0 b.0 x a.2 b.2)
        ]
      ]

  pub once_push : (xs : List A) (x : A) → AreOnce xs → ((i : ℕ) → slice_get xs i ≢ Some x) → AreOnce (xs ++ x ∷ [])
  once_push xs x once new =
      once_append xs (x ∷ []) once (once_single x) (λ y h there.
      let at = at_contained xs y h in
      let end = at_contained (x ∷ []) y there in
      new at.0 (at.1 ∙ ap (λ (z : A). Some z) (sym (single x y end.0 end.1).1)))

  -- whether there is an element, by the number of elements
  pub some_of : (xs : List A) (n : ℕ) → n ≡ length xs → (n == 0) ≡ false → (x : A) × Contains xs x
  some_of [] n e h = let zero_is : (0 == 0) ≡ false = subst (λ (m : ℕ). (m == 0) ≡ false) e h in let f : true ≡ false = zero_is in cc
  some_of (x ∷ xs) n e h = (x, contains_at (x ∷ xs) 0 x refl)

  pub none_of : (xs : List A) (n : ℕ) → n ≡ length xs → (n == 0) ≡ true → xs ≡ []
  none_of [] n e h = refl
  none_of (x ∷ xs) n e h = let none : n ≡ 0 = eqb-true n 0 h in absurd (omega (arith, e, none))

  -- the first elements, and one more
  pub take_cases : (xs : List A) (k : ℕ) (x y : A) → k < length xs → x ≡ get_or xs k x → Contains (take (k + 1) xs) y → Contains (take k xs) y ⊎ (x ≡ y)
  take_cases xs k x y below is h =
      let more = subst (λ (l : List A). Contains l y) (take_more xs k x below) h in
      elim (Contains-push_cases (take k xs) (get_or xs k x) y more) as (λ _. Contains (take k xs) y ⊎ (x ≡ y)) [ inl a ↦ inl a | inr b ↦ inr (is ∙ b) ]

  pub take_before : (xs : List A) (k : ℕ) (x y : A) → k < length xs → Contains (take k xs) y → Contains (take (k + 1) xs) y
  take_before xs k x y below h =
      subst (λ (l : List A). Contains l y) (sym (take_more xs k x below)) (Contains-append_left (take k xs) (get_or xs k x ∷ []) y h)

  pub take_this : (xs : List A) (k : ℕ) (x : A) → k < length xs → x ≡ get_or xs k x → Contains (take (k + 1) xs) x
  take_this xs k x below is =
      let there = subst (λ (l : List A). Contains l (get_or xs k x)) (sym (take_more xs k x below)) (Contains-push (take k xs) (get_or xs k x)) in
      subst (Contains (take (k + 1) xs)) (sym is) there

  pub taken_at : (xs : List A) (k : ℕ) (x : A) → k < length xs → x ≡ get_or xs k x → Contains xs x
  taken_at xs k x below is = (k, below, sym is)

  -- one more isn't among the first ones, if no two numbers have the same
  pub take_once : (xs : List A) (k : ℕ) (x : A) → AreOnce xs → k < length xs → x ≡ get_or xs k x → ¬ (Contains (take k xs) x)
  take_once xs k x once below is h =
      let at = at_contained (take k xs) x h in
      let there = at_left (take k xs) (get_or xs k x ∷ []) at.0 x at.1 in
      let less = slice_get_within (take k xs) at.0 x at.1 in
      let here = slice_get-get_or xs k x below ∙ ap (λ (y : A). Some y) (sym is) in
      let old = taken xs k at.0 x at.1 in
      omega (arith, once at.0 k x old.1 here, old.0)
    where
      taken : (ys : List A) (n i : ℕ) (y : A) → slice_get (take n ys) i ≡ Some y → (i < n) × (slice_get ys i ≡ Some y)
      taken ys zero i y at = absurd (none-some y at)
      taken [] (suc n) i y at = absurd (none-some y at)
      taken (z ∷ zs) (suc n) zero y at = (omega arith, at)
      taken (z ∷ zs) (suc n) (suc i) y at = let more = taken zs n i y at in (omega (arith, more.0), more.1)

  -- what is added
  pub adds_none : (P : A → Type 0) (xs : List A) → ((x : A) → ¬ (P x)) → Adds P xs xs
  adds_none P xs none = record {
    more = [];
    is = sym (append-nil xs);
    exact = λ x. (λ h. absurd (contains_none x h), λ p. absurd (none x p));
    once = once_none;
  }

  pub adds_one : (P : A → Type 0) (xs : List A) (x : A) → P x → ((y : A) → P y → x ≡ y) → Adds P xs (xs ++ x ∷ [])
  adds_one P xs x p one = record {
    more = x ∷ [];
    is = refl;
    exact = λ y. (
      (λ h. let at = at_contained (x ∷ []) y h in subst P (single x y at.0 at.1).1 p),
      (λ q. contains_at (x ∷ []) 0 y (ap (λ (z : A). Some z) (one y q))),
    );
    once = once_single x;
  }

  pub adds_both : (P Q : A → Type 0) (xs ys zs : List A) → Adds P xs ys → Adds Q ys zs → ((x : A) → P x → ¬ (Q x)) → Adds (λ x. P x ⊎ Q x) xs zs
  adds_both P Q xs ys zs first second apart = record {
    more = first.more ++ second.more;
    is = second.is ∙ ap (λ (l : List A). l ++ second.more) first.is ∙ append_assoc xs first.more second.more;
    exact = λ x. (
      (λ h. elim (Contains-append_cases first.more second.more x h) as (λ _. P x ⊎ Q x) [ inl a ↦ inl ((first.exact x).0 a) | inr b ↦ inr ((second.exact x).0 b) ]),
      (λ h. elim h as (λ _. Contains (first.more ++ second.more) x) [
        | inl p ↦ Contains-append_left first.more second.more x ((first.exact x).1 p)
        | inr q ↦ Contains-append_right first.more second.more x ((second.exact x).1 q)
      ]),
    );
    once = once_append first.more second.more first.once second.once (λ x a b. apart x ((first.exact x).0 a) ((second.exact x).0 b));
  }

  pub adds_same : (P Q : A → Type 0) (xs ys : List A) → ((x : A) → P x → Q x) → ((x : A) → Q x → P x) → Adds P xs ys → Adds Q xs ys
  adds_same P Q xs ys there back adds = record {
    more = adds.more;
    is = adds.is;
    exact = λ x. (λ h. there x ((adds.exact x).0 h), λ q. (adds.exact x).1 (back x q));
    once = adds.once;
  }

  -- all that is added to the empty list
  pub adds_all : (P : A → Type 0) (ys : List A) → Adds P [] ys → ((x : A) → Contains ys x → P x) × ((x : A) → P x → Contains ys x) × AreOnce ys
  adds_all P ys adds = (
    (λ x h. (adds.exact x).0 (subst (λ (l : List A). Contains l x) adds.is h)),
    (λ x p. subst (λ (l : List A). Contains l x) (sym adds.is) ((adds.exact x).1 p)),
    subst (λ (l : List A). AreOnce l) (sym adds.is) adds.once,
  )

-- an element of an image
pub mapped_at : {A B : Type 0} (f : A → B) (xs : List A) (k : ℕ) (x : A) → k < length xs → x ≡ get_or xs k x
    → (k < length (map f xs)) × (f x ≡ get_or (map f xs) k (f x))
mapped_at f xs k x below is = (omega (arith, below, length-map xs f), ap f is ∙ sym (get_or-map f xs k x (f x) below))
