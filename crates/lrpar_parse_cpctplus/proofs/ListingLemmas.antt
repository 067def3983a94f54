-- The order of the repairs that are listed: of two at most one is before the other, and one is unless they are the same; so the first
-- ones in this order are one list.
use Rattle.std.proofs.Common.{◌≡◌, ◌≢◌, ◌<◌, ◌-◌, ◌∙◌, ◌⊎◌, inl, inr, ℕ, zero, suc, List, [], ◌∷◌, Bool, true, false, IsTrue, length, refl, sym, subst, ap, ap₂, arith, All, Contains}
use Rattle.std.specs.Prelude.{slice_index_or}
use Rattle.lrpar_parse_repair.specs.Asked.{Asked}
use Rattle.lrpar_parse_repair.specs.Sequences.{PlainStep, PlainInsert, PlainDelete, PlainShift}
use Rattle.lrpar_parse_cpctplus.specs.Listing.{AreAlike, AreFirst, InsertsAvoided, IsFoundAt, IsListedBefore, IsPreferred, ListedAreOne, ListedInOrder, MayBeListed, avoids, is_earlier, is_shorter}
use Rattle.lrpar_parse_cpctplus.specs.Order.{IsEarlier, IsStepBefore}
use Rattle.lrpar_parse_cpctplus.proofs.AnyFormLemmas.{first_or_later}
use Rattle.lrpar_parse_cpctplus.proofs.DistanceLemmas.{compare}
use Rattle.lrpar_parse_cpctplus.proofs.FirstLemmas.{all_members}
use Rattle.lrpar_parse_cpctplus.proofs.FormLemmas.{has_after, has_none}
use Rattle.lrpar_parse_cpctplus.proofs.MemberLemmas.{contained, is_in}
use Rattle.lrpar_parse_cpctplus.proofs.OrderLemmas.{earlier_one_way, pairs_head, pairs_tail}
use Rattle.lrpar_parse_cpctplus.proofs.ReachLemmas.{goes_one_far}

-- of two steps one comes before the other, or they are the same
step_order : (x y : PlainStep) → IsStepBefore x y ⊎ ((x ≡ y) ⊎ IsStepBefore y x)
step_order (PlainInsert t) (PlainInsert u) =
    elim (compare t u) as (λ _. (t < u) ⊎ ((PlainInsert t ≡ PlainInsert u) ⊎ (u < t))) [
      | inl below ↦ inl below
      | inr other ↦ elim other as (λ _. (t < u) ⊎ ((PlainInsert t ≡ PlainInsert u) ⊎ (u < t))) [
        | inl same ↦ inr (inl (ap PlainInsert same))
        | inr above ↦ inr (inr above)
      ]
    ]
step_order (PlainInsert t) PlainDelete = inl tt
step_order (PlainInsert t) PlainShift = inl tt
step_order PlainDelete (PlainInsert u) = inr (inr tt)
step_order PlainDelete PlainDelete = inr (inl refl)
step_order PlainDelete PlainShift = inl tt
step_order PlainShift (PlainInsert u) = inr (inr tt)
step_order PlainShift PlainDelete = inr (inr tt)
step_order PlainShift PlainShift = inr (inl refl)

-- so it is with sequences of one length
pub differ_first : (x y : PlainStep) (xs ys : List PlainStep) → IsStepBefore x y → IsEarlier (x ∷ xs) (y ∷ ys)
differ_first x y xs ys before =
    record { same = []; x = x; y = y; after_x = xs; after_y = ys; left = refl; right = refl; before = before }

pub differ_later : (x y : PlainStep) (xs ys : List PlainStep) → x ≡ y → IsEarlier xs ys → IsEarlier (x ∷ xs) (y ∷ ys)
differ_later x y xs ys same e = record {
  same = x ∷ e.same;
  x = e.x;
  y = e.y;
  after_x = e.after_x;
  after_y = e.after_y;
  left = ap (λ (l : List PlainStep). x ∷ l) e.left;
  right = ap₂ (λ (z : PlainStep) (l : List PlainStep). z ∷ l) (sym same) e.right;
  before = e.before;
}

pub earlier_or_same : (xs ys : List PlainStep) → length xs ≡ length ys → IsEarlier xs ys ⊎ ((xs ≡ ys) ⊎ IsEarlier ys xs)
earlier_or_same [] [] long = inr (inl refl)
earlier_or_same [] (y ∷ ys) long = absurd (omega (arith, long))
earlier_or_same (x ∷ xs) [] long = absurd (omega (arith, long))
earlier_or_same (x ∷ xs) (y ∷ ys) long =
    elim (step_order x y) as (λ _. IsEarlier (x ∷ xs) (y ∷ ys) ⊎ ((x ∷ xs ≡ y ∷ ys) ⊎ IsEarlier (y ∷ ys) (x ∷ xs))) [
      | inl before ↦ inl (differ_first x y xs ys before)
      | inr other ↦ elim other as (λ _. IsEarlier (x ∷ xs) (y ∷ ys) ⊎ ((x ∷ xs ≡ y ∷ ys) ⊎ IsEarlier (y ∷ ys) (x ∷ xs))) [
        | inl same ↦ elim (earlier_or_same xs ys (omega (arith, long)))
            as (λ _. IsEarlier (x ∷ xs) (y ∷ ys) ⊎ ((x ∷ xs ≡ y ∷ ys) ⊎ IsEarlier (y ∷ ys) (x ∷ xs))) [
              | inl earlier ↦ inl (differ_later x y xs ys same earlier)
              | inr rest ↦ elim rest as (λ _. IsEarlier (x ∷ xs) (y ∷ ys) ⊎ ((x ∷ xs ≡ y ∷ ys) ⊎ IsEarlier (y ∷ ys) (x ∷ xs))) [
                | inl e ↦ inr (inl (ap₂ (λ (z : PlainStep) (l : List PlainStep). z ∷ l) same e))
                | inr later ↦ inr (inr (differ_later y x ys xs (sym same) later))
              ]
            ]
        | inr after ↦ inr (inr (differ_first y x ys xs after))
      ]
    ]

-- a sequence inserts a token that is to be avoided, or doesn't
true_or_not : (b : Bool) → IsTrue b ⊎ ¬ (IsTrue b)
true_or_not true = inl refl
true_or_not false = inr (λ (e : false ≡ true). cc)

delete_no_insert : (u : ℕ) → ¬ (PlainDelete ≡ PlainInsert u)
delete_no_insert u e = cc

shift_no_insert : (u : ℕ) → ¬ (PlainShift ≡ PlainInsert u)
shift_no_insert u e = cc

module _ (avoided : List Bool) where
  -- a first step is none of these
  with_first : (s : PlainStep) (steps : List PlainStep) → ((t : ℕ) → s ≡ PlainInsert t → ¬ (IsTrue (slice_index_or avoided t false)))
      → InsertsAvoided avoided steps ⊎ ¬ (InsertsAvoided avoided steps)
      → InsertsAvoided avoided (s ∷ steps) ⊎ ¬ (InsertsAvoided avoided (s ∷ steps))
  with_first s steps first rest =
      elim rest as (λ _. InsertsAvoided avoided (s ∷ steps) ⊎ ¬ (InsertsAvoided avoided (s ∷ steps))) [
        | inl later ↦ inl (later.0, later.1, has_after s steps (PlainInsert later.0 ∷ []) later.2)
        | inr none ↦ inr (λ h.
            elim (first_or_later s steps (PlainInsert h.0) [] h.2.0 h.2.1 h.2.2) as (λ _. ⊥) [
              | inl here ↦ first h.0 here.0 h.1
              | inr after ↦ none (h.0, h.1, after)
            ])
      ]

  pub inserts_or_not : (steps : List PlainStep) → InsertsAvoided avoided steps ⊎ ¬ (InsertsAvoided avoided steps)
  inserts_or_not [] = inr (λ h. has_none (PlainInsert h.0) [] h.2)
  inserts_or_not (PlainInsert t ∷ steps) =
      elim (true_or_not (slice_index_or avoided t false))
      as (λ _. InsertsAvoided avoided (PlainInsert t ∷ steps) ⊎ ¬ (InsertsAvoided avoided (PlainInsert t ∷ steps))) [
        | inl holds ↦ inl (t, holds, ([], steps, refl))
        | inr fails ↦ with_first (PlainInsert t) steps (λ u e.
            let same : t ≡ u = cc in
            subst (λ (n : ℕ). ¬ (IsTrue (slice_index_or avoided n false))) same fails) (inserts_or_not steps)
      ]
  inserts_or_not (PlainDelete ∷ steps) = with_first PlainDelete steps (λ u e. absurd (delete_no_insert u e)) (inserts_or_not steps)
  inserts_or_not (PlainShift ∷ steps) = with_first PlainShift steps (λ u e. absurd (shift_no_insert u e)) (inserts_or_not steps)

  -- of two sequences at most one is preferred
  preferred_one_way : (xs ys : List PlainStep) → IsPreferred avoided xs ys → ¬ (IsPreferred avoided ys xs)
  preferred_one_way xs ys (avoids a b) (avoids c d) = c b
  preferred_one_way xs ys (avoids a b) (is_shorter alike less) = a (alike.0 b)
  preferred_one_way xs ys (avoids a b) (is_earlier alike long e) = a (alike.0 b)
  preferred_one_way xs ys (is_shorter alike less) (avoids c d) = c (alike.0 d)
  preferred_one_way xs ys (is_shorter alike less) (is_shorter too fewer) = omega (arith, less, fewer)
  preferred_one_way xs ys (is_shorter alike less) (is_earlier too long e) = omega (arith, less, long)
  preferred_one_way xs ys (is_earlier alike long e) (avoids c d) = c (alike.0 d)
  preferred_one_way xs ys (is_earlier alike long e) (is_shorter too fewer) = omega (arith, long, fewer)
  preferred_one_way xs ys (is_earlier alike long e) (is_earlier too same f) = earlier_one_way xs ys e f

  -- and one is, unless they are the same
  preferred_alike : (xs ys : List PlainStep) → AreAlike avoided xs ys → IsPreferred avoided xs ys ⊎ ((xs ≡ ys) ⊎ IsPreferred avoided ys xs)
  preferred_alike xs ys alike =
      let back : AreAlike avoided ys xs = (alike.1, alike.0) in
      elim (compare (length xs) (length ys)) as (λ _. IsPreferred avoided xs ys ⊎ ((xs ≡ ys) ⊎ IsPreferred avoided ys xs)) [
        | inl less ↦ inl (is_shorter alike less)
        | inr other ↦ elim other as (λ _. IsPreferred avoided xs ys ⊎ ((xs ≡ ys) ⊎ IsPreferred avoided ys xs)) [
          | inl long ↦ elim (earlier_or_same xs ys long) as (λ _. IsPreferred avoided xs ys ⊎ ((xs ≡ ys) ⊎ IsPreferred avoided ys xs)) [
            | inl e ↦ inl (is_earlier alike long e)
            | inr rest ↦ elim rest as (λ _. IsPreferred avoided xs ys ⊎ ((xs ≡ ys) ⊎ IsPreferred avoided ys xs)) [
              | inl same ↦ inr (inl same)
              | inr f ↦ inr (inr (is_earlier back (sym long) f))
            ]
          ]
          | inr more ↦ inr (inr (is_shorter back more))
        ]
      ]

  pub preferred_or_same : (xs ys : List PlainStep) → IsPreferred avoided xs ys ⊎ ((xs ≡ ys) ⊎ IsPreferred avoided ys xs)
  preferred_or_same xs ys =
      elim (inserts_or_not xs) as (λ _. IsPreferred avoided xs ys ⊎ ((xs ≡ ys) ⊎ IsPreferred avoided ys xs)) [
        | inl one ↦ elim (inserts_or_not ys) as (λ _. IsPreferred avoided xs ys ⊎ ((xs ≡ ys) ⊎ IsPreferred avoided ys xs)) [
          | inl other ↦ preferred_alike xs ys ((λ _. other), (λ _. one))
          | inr clean ↦ inr (inr (avoids clean one))
        ]
        | inr clean ↦ elim (inserts_or_not ys) as (λ _. IsPreferred avoided xs ys ⊎ ((xs ≡ ys) ⊎ IsPreferred avoided ys xs)) [
          | inl other ↦ inl (avoids clean other)
          | inr too ↦ preferred_alike xs ys ((λ h. absurd (clean h)), (λ h. absurd (too h)))
        ]
      ]

-- of two repairs at most one is listed before the other
pub listed_one_way : {X : Type 0} (token : X → ℕ) (at : Asked X) (avoided : List Bool) (xs ys : List PlainStep) → IsListedBefore token at avoided xs ys
    → ¬ (IsListedBefore token at avoided ys xs)
listed_one_way token at avoided xs ys h k =
    let one = goes_one_far token at xs h.0 k.1 h.2 k.3 in
    let other = goes_one_far token at ys h.1 k.0 h.3 k.2 in
    elim h.4 as (λ _. ⊥) [
      | inl further ↦ elim k.4 as (λ _. ⊥) [ inl back ↦ omega (arith, one, other, further, back) | inr same ↦ omega (arith, one, other, further, same.0) ]
      | inr same ↦ elim k.4 as (λ _. ⊥) [
        | inl back ↦ omega (arith, one, other, same.0, back)
        | inr both ↦ preferred_one_way avoided xs ys same.1 both.1
      ]
    ]

-- and one is, unless they are the same
pub listed_in_order : {X : Type 0} → ListedInOrder X
listed_in_order token at avoided xs ys m n far near =
    elim (compare m n) as (λ _. IsListedBefore token at avoided xs ys ⊎ ((xs ≡ ys) ⊎ IsListedBefore token at avoided ys xs)) [
      | inl less ↦ inr (inr (n, m, near, far, inl less))
      | inr other ↦ elim other as (λ _. IsListedBefore token at avoided xs ys ⊎ ((xs ≡ ys) ⊎ IsListedBefore token at avoided ys xs)) [
        | inl as_far ↦ elim (preferred_or_same avoided xs ys)
            as (λ _. IsListedBefore token at avoided xs ys ⊎ ((xs ≡ ys) ⊎ IsListedBefore token at avoided ys xs)) [
              | inl before ↦ inl (m, n, far, near, inr (as_far, before))
              | inr rest ↦ elim rest as (λ _. IsListedBefore token at avoided xs ys ⊎ ((xs ≡ ys) ⊎ IsListedBefore token at avoided ys xs)) [
                | inl same ↦ inr (inl same)
                | inr after ↦ inr (inr (n, m, near, far, inr (sym as_far, after)))
              ]
            ]
        | inr more ↦ inl (m, n, far, near, inl more)
      ]
    ]

-- the first things in an order are one list
module _ {A : Type 0} (R : A → A → Type 0) (one_way : (x y : A) → R x y → ¬ (R y x)) where
  -- a thing that may be among them is the first one, or comes after it
  first_or_after : (n : ℕ) (P : A → Type 0) (x : A) (xs : List A) (y : A) → AreFirst n P R (x ∷ xs) → P y → (y ≡ x) ⊎ R x y
  first_or_after n P x xs y h p =
      elim (h.others y p) as (λ _. (y ≡ x) ⊎ R x y) [
        | inl within ↦ elim (is_in y (x ∷ xs) within) as (λ _. (y ≡ x) ⊎ R x y) [
          | inl e ↦ inl e
          | inr later ↦ inr (all_members (R x) xs (pairs_head R x xs h.ordered) y later)
        ]
        | inr past ↦ inr (past.1 zero x (omega arith))
      ]

  same_first : (n : ℕ) (P : A → Type 0) (x : A) (xs : List A) (y : A) (ys : List A) → AreFirst n P R (x ∷ xs) → AreFirst n P R (y ∷ ys) → x ≡ y
  same_first n P x xs y ys a b =
      let one = first_or_after n P x xs y a (b.each y (contained y (y ∷ ys) (inl refl))) in
      let other = first_or_after n P y ys x b (a.each x (contained x (x ∷ xs) (inl refl))) in
      elim one as (λ _. x ≡ y) [
        | inl e ↦ sym e
        | inr after ↦ elim other as (λ _. x ≡ y) [ inl e ↦ e | inr back ↦ absurd (one_way x y after back) ]
      ]

  -- those after the first one are the first ones of the others
  rest_first : (n : ℕ) (P : A → Type 0) (x : A) (xs : List A) → AreFirst n P R (x ∷ xs) → AreFirst (n - 1) (λ z. P z × (z ≢ x)) R xs
  rest_first n P x xs h = record {
    few = omega (arith, h.few);
    each = λ z m. (
      h.each z (contained z (x ∷ xs) (inr (is_in z xs m))),
      λ e.
          let after = all_members (R x) xs (pairs_head R x xs h.ordered) z (is_in z xs m) in
          let itself = subst (λ (w : A). R x w) e after in
          one_way x x itself itself,
    );
    ordered = pairs_tail R x xs h.ordered;
    others = λ z p.
        elim (h.others z p.0) as (λ _. Contains xs z ⊎ ((length xs ≡ n - 1) × All (λ y. R y z) xs)) [
          | inl within ↦ elim (is_in z (x ∷ xs) within) as (λ _. Contains xs z ⊎ ((length xs ≡ n - 1) × All (λ y. R y z) xs)) [
            | inl e ↦ absurd (p.1 e)
            | inr later ↦ inl (contained z xs later)
          ]
          | inr past ↦ inr (omega (arith, past.0), λ k d inside. past.1 (suc k) d (omega (arith, inside)))
        ];
  }

  pub first_are_one : (n : ℕ) (P : A → Type 0) (xs ys : List A) → AreFirst n P R xs → AreFirst n P R ys → xs ≡ ys
  first_are_one n P [] [] a b = refl
  first_are_one n P [] (y ∷ ys) a b =
      elim (a.others y (b.each y (contained y (y ∷ ys) (inl refl)))) as (λ _. [] ≡ y ∷ ys) [
        | inl within ↦ absurd (is_in y [] within)
        | inr past ↦ absurd (omega (arith, past.0, b.few))
      ]
  first_are_one n P (x ∷ xs) [] a b =
      elim (b.others x (a.each x (contained x (x ∷ xs) (inl refl)))) as (λ _. x ∷ xs ≡ []) [
        | inl within ↦ absurd (is_in x [] within)
        | inr past ↦ absurd (omega (arith, past.0, a.few))
      ]
  first_are_one n P (x ∷ xs) (y ∷ ys) a b =
      let first = same_first n P x xs y ys a b in
      let there = subst (λ (w : A). AreFirst (n - 1) (λ z. P z × (z ≢ w)) R ys) (sym first) (rest_first n P y ys b) in
      let rest = first_are_one (n - 1) (λ z. P z × (z ≢ x)) xs ys (rest_first n P x xs a) there in
      ap₂ (λ (z : A) (zs : List A). z ∷ zs) first rest

pub listed_are_one : {X : Type 0} → ListedAreOne X
listed_are_one token settings at xs ys one other =
    let R = IsListedBefore token at settings.avoided in
    let listed : (c : ℕ) → IsFoundAt token settings at c → xs ≡ ys = λ c found.
    first_are_one R (listed_one_way token at settings.avoided) settings.most (MayBeListed token settings at c) xs ys (one.first c found) (other.first c found) in
    elim one.else as (λ _. xs ≡ ys) [
      | inl none ↦ elim other.else as (λ _. xs ≡ ys) [ inl also ↦ none ∙ sym also | inr found ↦ listed found.0 found.1 ]
      | inr found ↦ listed found.0 found.1
    ]
