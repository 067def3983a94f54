-- Members of lists that are put together, and of the images of lists; and pairs of members that are in an order.
use Rattle.std.proofs.Common.{◌≡◌, ◌⊎◌, inl, inr, ℕ, zero, suc, List, [], ◌∷◌, ◌++◌, map, refl, subst, ap, arith, All, AllPairs}
use Rattle.std.proofs.lemmas.List.Kept.{AllPairs-cons}
use Rattle.lrpar_parse_cpctplus.specs.Listing.{AreFirst}
use Rattle.lrpar_parse_cpctplus.proofs.MemberLemmas.{IsIn, contained, is_in}
use Rattle.lrpar_parse_cpctplus.proofs.OrderLemmas.{pairs_head, pairs_none, pairs_tail}

-- what each member has
module _ {A : Type 0} (P : A → Type 0) where
  pub all_members : (xs : List A) → All P xs → (x : A) → IsIn x xs → P x
  all_members xs all x m = let k = contained x xs m in subst P k.2 (all k.0 x k.1)

  pub members_all : (xs : List A) → ((x : A) → IsIn x xs → P x) → All P xs
  members_all [] each k d within = absurd (omega (arith, within))
  members_all (x ∷ xs) each zero d within = each x (inl refl)
  members_all (x ∷ xs) each (suc k) d within = members_all xs (λ y m. each y (inr m)) k d (omega (arith, within))

-- the members of two lists
module _ {A : Type 0} where
  pub in_either : (x : A) (xs ys : List A) → IsIn x (xs ++ ys) → IsIn x xs ⊎ IsIn x ys
  in_either x [] ys m = inr m
  in_either x (z ∷ xs) ys m =
      elim m as (λ _. IsIn x (z ∷ xs) ⊎ IsIn x ys) [
        | inl e ↦ inl (inl e)
        | inr rest ↦ elim (in_either x xs ys rest) as (λ _. IsIn x (z ∷ xs) ⊎ IsIn x ys) [ inl a ↦ inl (inr a) | inr b ↦ inr b ]
      ]

  pub in_left : (x : A) (xs ys : List A) → IsIn x xs → IsIn x (xs ++ ys)
  in_left x [] ys m = absurd m
  in_left x (z ∷ xs) ys m = elim m as (λ _. IsIn x (z ∷ (xs ++ ys))) [ inl e ↦ inl e | inr rest ↦ inr (in_left x xs ys rest) ]

  pub in_right : (x : A) (xs ys : List A) → IsIn x ys → IsIn x (xs ++ ys)
  in_right x [] ys m = m
  in_right x (z ∷ xs) ys m = inr (in_right x xs ys m)

  pub pairs_joined : (R : A → A → Type 0) (xs ys : List A) → AllPairs R xs → AllPairs R ys → ((x y : A) → IsIn x xs → IsIn y ys → R x y) → AllPairs R (xs ++ ys)
  pairs_joined R [] ys a b cross = b
  pairs_joined R (x ∷ xs) ys a b cross =
      let first : All (R x) (xs ++ ys) = members_all (R x) (xs ++ ys) (λ z m.
      elim (in_either z xs ys m) as (λ _. R x z) [
        | inl one ↦ all_members (R x) xs (pairs_head R x xs a) z one
        | inr other ↦ cross x z (inl refl) other
      ]) in
      AllPairs-cons R x (xs ++ ys) first (pairs_joined R xs ys (pairs_tail R x xs a) b (λ z y m n. cross z y (inr m) n))

  -- another order of what is in both
  pub pairs_between : (R S : A → A → Type 0) (xs : List A) → AllPairs R xs → ((x y : A) → IsIn x xs → IsIn y xs → R x y → S x y) → AllPairs S xs
  pairs_between R S [] a between = pairs_none S
  pairs_between R S (x ∷ xs) a between =
      let head = pairs_head R x xs a in
      let first : All (S x) xs = members_all (S x) xs (λ y m. between x y (inl refl) (inr m) (all_members (R x) xs head y m)) in
      AllPairs-cons S x xs first (pairs_between R S xs (pairs_tail R x xs a) (λ y z m n. between y z (inr m) (inr n)))

  pub in_image : {B : Type 0} (f : A → B) (xs : List A) (b : B) → IsIn b (map f xs) → (a : A) × (b ≡ f a) × IsIn a xs
  in_image f [] b m = absurd m
  in_image f (x ∷ xs) b m =
      elim m as (λ _. (a : A) × (b ≡ f a) × IsIn a (x ∷ xs)) [
        | inl e ↦ (x, e, inl refl)
        | inr rest ↦ let more = in_image f xs b rest in (more.0, more.1, inr more.2)
      ]

  pub image_in : {B : Type 0} (f : A → B) (xs : List A) (a : A) → IsIn a xs → IsIn (f a) (map f xs)
  image_in f [] a m = absurd m
  image_in f (x ∷ xs) a m = elim m as (λ _. IsIn (f a) (map f (x ∷ xs))) [ inl e ↦ inl (ap f e) | inr rest ↦ inr (image_in f xs a rest) ]

module _ {A : Type 0} (R : A → A → Type 0) where
  -- there are none
  pub first_none : (n : ℕ) (P : A → Type 0) → ((x : A) → ¬ (P x)) → AreFirst n P R []
  first_none n P none = record {
    few = omega arith;
    each = λ x m. absurd (is_in x [] m);
    ordered = pairs_none R;
    others = λ x p. absurd (none x p);
  }
