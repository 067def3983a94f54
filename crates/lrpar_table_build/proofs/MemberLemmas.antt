-- Members of lists that are filtered, counted and joined; and joined lists that are sorted.
use Rattle.std.proofs.Common.{◌≡◌, ◌≢◌, ◌<◌, ◌≤◌, ◌+◌, ◌⊎◌, ◌∷◌, ◌++◌, ℕ, zero, suc, Bool, true, false, cond, List, [], Option, Some, None, ◌∙◌, refl, sym, ap, subst, arith, inl, inr, filter}
use Rattle.std.specs.List.{AllByRecursion, Contains, cons_option, filter_map, flat_map, range_with_len}
use Rattle.std.specs.List.Sorted.{IsStrictlySortedBy}
use Rattle.std.specs.declared.cmp.Ordering.{Ordering}
use Rattle.std.specs.declared.cmp.Ordering.TheVariants.{Less}
use Rattle.std.proofs.lemmas.Bool.{cases_Bool, cases_eq}
use Rattle.std.proofs.lemmas.List.Elements.{Contains-append_cases, Contains-append_left, Contains-append_right}

-- nothing is a member of an empty list
pub member_none : {X : Type 0} (x : X) → Contains [] x → ⊥
member_none x h = omega (arith, h.1)

-- a member is the first one, or one of the others
pub member_cases : {X : Type 0} (y : X) (ys : List X) (x : X) → Contains (y ∷ ys) x → (y ≡ x) ⊎ Contains ys x
member_cases y ys x (zero, below, at) = inl at
member_cases y ys x (suc k, below, at) = inr (k, omega (arith, below), at)

pub member_first : {X : Type 0} (x : X) (ys : List X) → Contains (x ∷ ys) x
member_first x ys = (0, omega arith, refl)

pub member_later : {X : Type 0} (y : X) (ys : List X) (x : X) → Contains ys x → Contains (y ∷ ys) x
member_later y ys x h = (suc h.0, omega (arith, h.1), h.2)

-- a member of a filtered list is a member that passes the test
pub filter_member : {X : Type 0} (p : X → Bool) (xs : List X) (x : X) → Contains (filter p xs) x → Contains xs x × (p x ≡ true)
filter_member p [] x h = absurd (member_none x h)
filter_member p (y ∷ ys) x h =
    elim (cases_Bool (p y)) [
      | inl passed ↦
          let kept : Contains (y ∷ filter p ys) x = subst (λ b. Contains (cond b (y ∷ filter p ys) (filter p ys)) x) passed h in
          elim (member_cases y (filter p ys) x kept) [
            | inl here ↦ ((0, omega arith, here), subst (λ z. p z ≡ true) here passed)
            | inr later ↦ let rest = filter_member p ys x later in (member_later y ys x rest.0, rest.1)
          ]
      | inr failed ↦
          let rest = filter_member p ys x (subst (λ b. Contains (cond b (y ∷ filter p ys) (filter p ys)) x) failed h) in
          (member_later y ys x rest.0, rest.1)
    ]

pub filter_has : {X : Type 0} (p : X → Bool) (xs : List X) (x : X) → Contains xs x → p x ≡ true → Contains (filter p xs) x
filter_has p [] x h passes = absurd (member_none x h)
filter_has p (y ∷ ys) x h passes =
    elim (member_cases y ys x h) [
      | inl here ↦
          let passed = subst (λ z. p z ≡ true) (sym here) passes in
          subst (λ b. Contains (cond b (y ∷ filter p ys) (filter p ys)) x) (sym passed) (0, omega arith, here)
      | inr later ↦
          let rest = filter_has p ys x later passes in
          elim (cases_Bool (p y)) [
            | inl passed ↦ subst (λ b. Contains (cond b (y ∷ filter p ys) (filter p ys)) x) (sym passed) (member_later y (filter p ys) x rest)
            | inr failed ↦ subst (λ b. Contains (cond b (y ∷ filter p ys) (filter p ys)) x) (sym failed) rest
          ]
    ]

-- the members of a range
pub range_member : (a n k : ℕ) → Contains (range_with_len a n) k → (a ≤ k) × (k < a + n)
range_member a zero k h = absurd (member_none k h)
range_member a (suc n) k h =
    elim (member_cases a (range_with_len (a + 1) n) k h) [
      | inl here ↦ (omega (arith, here), omega (arith, here))
      | inr later ↦ let rest = range_member (a + 1) n k later in (omega (arith, rest.0), omega (arith, rest.1))
    ]

pub range_has : (a n k : ℕ) → a ≤ k → k < a + n → Contains (range_with_len a n) k
range_has a zero k from below = absurd (omega (arith, from, below))
range_has a (suc n) k from below =
    elim (cases_eq a k) [
      | inl here ↦ (0, omega arith, here)
      | inr other ↦
          let differs : a ≢ k = other in
          member_later a (range_with_len (a + 1) n) k (range_has (a + 1) n k (omega (arith, from, differs)) (omega (arith, below)))
    ]

-- a member of joined lists is a member of one of them
pub joined_member : {X Y : Type 0} (f : X → List Y) (xs : List X) (y : Y) → Contains (flat_map f xs) y → (x : X) × Contains xs x × Contains (f x) y
joined_member f [] y h = absurd (member_none y h)
joined_member f (x ∷ xs) y h =
    elim (Contains-append_cases (f x) (flat_map f xs) y h) [
      | inl here ↦ (x, member_first x xs, here)
      | inr later ↦ let rest = joined_member f xs y later in (rest.0, member_later x xs rest.0 rest.1, rest.2)
    ]

pub joined_has : {X Y : Type 0} (f : X → List Y) (xs : List X) (x : X) (y : Y) → Contains xs x → Contains (f x) y → Contains (flat_map f xs) y
joined_has f [] x y h there = absurd (member_none x h)
joined_has f (z ∷ zs) x y h there =
    elim (member_cases z zs x h) [
      | inl here ↦ Contains-append_left (f z) (flat_map f zs) y (subst (λ w. Contains (f w) y) (sym here) there)
      | inr later ↦ Contains-append_right (f z) (flat_map f zs) y (joined_has f zs x y later there)
    ]

module _ {Y : Type 0} (R : Y → Y → Ordering) where
  -- what holds of the members of a list holds by recursion
  before_all : (x : Y) (ys : List Y) → ((y : Y) → Contains ys y → R x y ≡ Less) → AllByRecursion (λ y. R x y ≡ Less) ys
  before_all x [] less = tt
  before_all x (y ∷ ys) less = (less y (member_first y ys), before_all x ys (λ z h. less z (member_later y ys z h)))

  all_before : (x : Y) (ys : List Y) (y : Y) → AllByRecursion (λ z. R x z ≡ Less) ys → Contains ys y → R x y ≡ Less
  all_before x [] y less h = absurd (member_none y h)
  all_before x (z ∷ ys) y less h =
      elim (member_cases z ys y h) [
        | inl here ↦ subst (λ w. R x w ≡ Less) here less.0
        | inr later ↦ all_before x ys y less.1 later
      ]

  -- a sorted list with one more first element, which comes before all others
  pub sorted_first : (x : Y) (ys : List Y) → ((y : Y) → Contains ys y → R x y ≡ Less) → IsStrictlySortedBy R ys → IsStrictlySortedBy R (x ∷ ys)
  unfolding IsStrictlySortedBy
  sorted_first x ys less sorted = (before_all x ys less, sorted)

  pub sorted_none : IsStrictlySortedBy R []
  unfolding IsStrictlySortedBy
  sorted_none = tt

  -- two sorted lists joined, if each element of the first comes before each of the second
  sorted_append : (xs ys : List Y) → IsStrictlySortedBy R xs → IsStrictlySortedBy R ys → ((x y : Y) → Contains xs x → Contains ys y → R x y ≡ Less)
      → IsStrictlySortedBy R (xs ++ ys)
  unfolding IsStrictlySortedBy
  sorted_append [] ys left right less = right
  sorted_append (x ∷ xs) ys left right less = (
    before_all x (xs ++ ys) (λ y h. elim (Contains-append_cases xs ys y h) [
      | inl own ↦ all_before x xs y left.0 own
      | inr other ↦ less x y (member_first x xs) other
    ]),
    sorted_append xs ys left.1 right (λ z y h there. less z y (member_later x xs z h) there),
  )

  -- sorted lists joined by ascending numbers are sorted
  pub sorted_joined : (f : ℕ → List Y) → ((k : ℕ) → IsStrictlySortedBy R (f k))
      → ((i j : ℕ) (x y : Y) → i < j → Contains (f i) x → Contains (f j) y → R x y ≡ Less) → (a n : ℕ) → IsStrictlySortedBy R (flat_map f (range_with_len a n))
  sorted_joined f each less a zero = sorted_none
  sorted_joined f each less a (suc n) =
      sorted_append (f a) (flat_map f (range_with_len (a + 1) n)) (each a) (sorted_joined f each less (a + 1) n) (λ x y h there.
      let one = joined_member f (range_with_len (a + 1) n) y there in
      let from = range_member (a + 1) n one.0 one.1 in
      less a one.0 x y (omega (arith, from.0)) h one.2)

-- a member of the images that the elements of a list have is the image of one of them
first_image : {X Y : Type 0} (f : X → Option Y) (x : X) (xs : List X) (y : Y) (o : Option Y) → f x ≡ o
    → (Contains (filter_map f xs) y → (z : X) × Contains xs z × (f z ≡ Some y)) → Contains (cons_option o (filter_map f xs)) y
    → (z : X) × Contains (x ∷ xs) z × (f z ≡ Some y)
first_image f x xs y None is rest h = let one = rest h in (one.0, member_later x xs one.0 one.1, one.2)
first_image f x xs y (Some w) is rest h =
    elim (member_cases w (filter_map f xs) y h) [
      | inl here ↦ (x, member_first x xs, is ∙ ap (λ v. Some v) here)
      | inr later ↦ let one = rest later in (one.0, member_later x xs one.0 one.1, one.2)
    ]

pub image_member : {X Y : Type 0} (f : X → Option Y) (xs : List X) (y : Y) → Contains (filter_map f xs) y → (x : X) × Contains xs x × (f x ≡ Some y)
image_member f [] y h = absurd (member_none y h)
image_member f (x ∷ xs) y h = first_image f x xs y (f x) refl (image_member f xs y) h

-- a member of the other images
later_image : {Y : Type 0} (o : Option Y) (ys : List Y) (y : Y) → Contains ys y → Contains (cons_option o ys) y
later_image None ys y h = h
later_image (Some w) ys y h = member_later w ys y h

pub image_has : {X Y : Type 0} (f : X → Option Y) (xs : List X) (x : X) (y : Y) → Contains xs x → f x ≡ Some y → Contains (filter_map f xs) y
image_has f [] x y h is = absurd (member_none x h)
image_has f (z ∷ zs) x y h is =
    elim (member_cases z zs x h) [
      | inl here ↦ subst (λ o. Contains (cons_option o (filter_map f zs)) y) (sym (ap f here ∙ is)) (member_first y (filter_map f zs))
      | inr later ↦ later_image (f z) (filter_map f zs) y (image_has f zs x y later is)
    ]

-- the elements of a sorted list that pass a test are sorted
pub sorted_filter : {Y : Type 0} (R : Y → Y → Ordering) (p : Y → Bool) (xs : List Y) → IsStrictlySortedBy R xs → IsStrictlySortedBy R (filter p xs)
unfolding IsStrictlySortedBy
sorted_filter R p [] sorted = tt
sorted_filter R p (x ∷ xs) sorted =
    let rest = sorted_filter R p xs sorted.1 in
    elim (p x) as (λ b. IsStrictlySortedBy R (cond b (x ∷ filter p xs) (filter p xs))) [
      | true ↦ sorted_first R x (filter p xs) (λ y h. all_before R x xs y sorted.0 (filter_member p xs y h).0) rest
      | false ↦ rest
    ]

-- and so are their images, if these keep the order
sorted_image_first : {Y : Type 0} (S : Y → Y → Ordering) (o : Option Y) (ys : List Y) → ((w y : Y) → o ≡ Some w → Contains ys y → S w y ≡ Less)
    → IsStrictlySortedBy S ys → IsStrictlySortedBy S (cons_option o ys)
sorted_image_first S None ys less sorted = sorted
sorted_image_first S (Some w) ys less sorted = sorted_first S w ys (λ y h. less w y refl h) sorted

pub sorted_images : {X Y : Type 0} (R : X → X → Ordering) (S : Y → Y → Ordering) (f : X → Option Y)
    → ((x z : X) (y w : Y) → f x ≡ Some y → f z ≡ Some w → R x z ≡ Less → S y w ≡ Less)
    → (xs : List X) → IsStrictlySortedBy R xs → IsStrictlySortedBy S (filter_map f xs)
unfolding IsStrictlySortedBy
sorted_images R S f keeps [] sorted = tt
sorted_images R S f keeps (x ∷ xs) sorted =
    sorted_image_first S (f x) (filter_map f xs)
    (λ y w is h. let one = image_member f xs w h in keeps x one.0 y w is one.2 (all_before R x xs one.0 sorted.0 one.1))
    (sorted_images R S f keeps xs sorted.1)
