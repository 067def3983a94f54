-- Rows that are sorted and searched.
use Rattle.std.proofs.Common.{◌≡◌, ◌<◌, ◌+◌, ◌-◌, ◌++◌, ◌∷◌, ◌↔◌, ℕ, Bor, List, [], Option, Some, None, slice_get, length, slice_index_or, IsTrue, Bool, true, false, refl, sym, ◌∙◌, subst, inl, inr, arith, Ok, Err, Result, MatchOption}
use Rattle.std.specs.Cmp.{IsTotalOrder, IsEquivalence, Equal-is}
use Rattle.std.specs.List.{Contains}
use Rattle.std.specs.List.Sorted.{IsStrictlySortedBy, IsSorted, IsBinarySearchResult, IsSearchInRange, IsPermutation, IsPartitionPoint}
use Rattle.std.specs.List.Retain.{IsFiltered, DiffersFromLast}
use Rattle.std.specs.Option.{option_copied, option_eq}
use Rattle.std.specs.Ordering.{is_lt, eq_by_cmp}
use Rattle.std.specs.Result.{is_ok, result_ok}
use Rattle.std.specs.declared.cmp.Ordering.{Ordering}
use Rattle.std.specs.declared.cmp.Ordering.TheVariants.{Less, Equal, Greater}
use Rattle.std.proofs.lemmas.Bool.{cases_lt}
use Rattle.std.proofs.lemmas.Cmp.{tied_itself}
use Rattle.std.proofs.lemmas.List.Elements.{Contains-append_left, Contains-push_cases}
use Rattle.std.proofs.lemmas.Option.{get_or_from_slice_get, slice_get_within}
use Rattle.std.proofs.lemmas.List.Sorted.{searchable_from_sorted, Contains-permutation, IsPermutation-sym}
use Rattle.std.proofs.lemmas.List.Filters.{dedup_is}
use Rattle.std.proofs.lemmas.List.Kept.{Contains-dedup, Contains-from_dedup, IsStrictlySortedBy-dedup}
use Rattle.std.proofs.lemmas.Map.Keys.{Less-from_sorted}
use Rattle.lrpar_table_rows.specs.Ascending.{ComparesExactly, HaveSame, IsAscending, IsOnlyIndex}

-- what comes after isn't less
after_not_less : {X : Type 0} {R : X → X → Ordering} → IsTotalOrder R → (x y : X) → R x y ≡ Less → is_lt (R y x) ≡ false
after_not_less o x y before = let e = o.antisymm y x in rw (e, before) cc

-- a row in which each element comes before those after it is sorted
pub sorted_from_strict : {X : Type 0} {R : X → X → Ordering} → IsTotalOrder R → (xs : List X) → IsStrictlySortedBy R xs → IsSorted R xs
sorted_from_strict o xs strict k d low high =
    after_not_less o (slice_index_or xs k d) (slice_index_or xs (k + 1) d) (Less-from_sorted _ xs k (k + 1) d strict (omega arith) high)

-- if all elements before a place are less than x and all from there on are greater, x is none of them
not_here : {X : Type 0} {R : X → X → Ordering} → IsTotalOrder R → (xs : List X) (x : X) (i : ℕ)
    → IsPartitionPoint (λ y. R y x ≡ Less) (λ y. R y x ≡ Greater) xs i → Contains xs x → ⊥
not_here {X} {R} o xs x i parts h =
    let tied : R (slice_index_or xs h.0 x) x ≡ Equal = subst (λ (y : X). R y x ≡ Equal) (sym h.2) (tied_itself o x) in
    elim (cases_lt h.0 i) as (λ _. ⊥) [
      | inl before ↦ let less = parts.0 h.0 x (omega arith) before in absurd (cc)
      | inr after ↦ let greater = parts.1 h.0 x after h.1 in absurd (cc)
    ]

-- a binary search finds what is there
pub found_in_row : {X : Type 0} {R : X → X → Ordering} → IsTotalOrder R → (xs : List X) (x : X) (r : Result ℕ ℕ) → IsAscending R xs
    → IsSearchInRange r (length xs) → IsBinarySearchResult (λ y. R y x) xs r → IsTrue (is_ok r) ↔ Contains xs x
found_in_row o xs x (Ok i) row within found = (λ h. (i, within, row.exact (slice_index_or xs i x) x (found x)), λ h. refl)
found_in_row {R = R} o xs x (Err i) row within parted =
    (λ h. absurd (cc), λ h. absurd (not_here o xs x i (parted (searchable_from_sorted o (λ y. y) xs x (sorted_from_strict o xs row.sorted))) h))

-- a sort and the removal of what repeats make a row
pub row_from_sort : {X : Type 0} {R : X → X → Ordering} {E : X → X → Bool} → IsTotalOrder R → ((x y : X) → E x y ≡ eq_by_cmp R x y)
    → ComparesExactly R → (xs ys : List X) → IsSorted R xs → IsFiltered (DiffersFromLast E) [] xs ys → IsAscending R ys
row_from_sort o ties exact xs ys up left = record { sorted = rw (dedup_is _ xs ys left) (IsStrictlySortedBy-dedup o ties xs up); exact = exact }

-- if E says equal exactly at `Equal`, elements that E says are equal are the same
same_from_equal : {X : Type 0} {R : X → X → Ordering} {E : X → X → Bool} → ((x y : X) → E x y ≡ eq_by_cmp R x y) → ComparesExactly R
    → (x y : X) → E x y ≡ true → x ≡ y
same_from_equal {R = R} ties exact x y e = exact x y ((Equal-is (R x y)).0 (sym (ties x y) ∙ e))

-- and they lose no element
pub same_from_sort : {X : Type 0} {R : X → X → Ordering} {E : X → X → Bool} → IsEquivalence E → ((x y : X) → E x y ≡ eq_by_cmp R x y)
    → ComparesExactly R → (xs ys zs : List X) → IsPermutation xs ys → IsFiltered (DiffersFromLast E) [] ys zs → HaveSame zs xs
same_from_sort equals ties exact xs ys zs moved left x =
    let is = dedup_is _ ys zs left in (
      λ h. Contains-permutation ys xs x (IsPermutation-sym xs ys moved) (Contains-from_dedup _ ys x (rw is at h)),
      λ h. rw is (Contains-dedup equals (same_from_equal ties exact) ys x (Contains-permutation xs ys x moved h)),
    )

-- if the last element is equal to one that is to be appended, the elements stay the same
pub same_from_last : {X : Type 0} (E : X → X → Bool) → ((x y : X) → E x y ≡ true → x ≡ y) → (xs : List X) (last : Option (Bor X)) (more : Bor X)
    (r : Bool) → option_copied last ≡ slice_get xs (length xs - 1) → r ≡ option_eq (λ x y. E x.now y.now) last (Some more) → r ≡ true
    → HaveSame xs (xs ++ more.now ∷ [])
same_from_last E exact xs None more r read reported passed = absurd cc
same_from_last E exact xs (Some last) more r read reported passed =
    let same : last.now ≡ more.now = exact last.now more.now (sym reported ∙ passed) in
    λ x. (
      λ h. Contains-append_left xs (more.now ∷ []) x h,
      λ h.
          elim (Contains-push_cases xs more.now x h) as (λ _. Contains xs x) [
            | inl before ↦ before
            | inr is ↦ (
              length xs - 1,
              slice_get_within xs (length xs - 1) last.now (sym read),
              get_or_from_slice_get xs (length xs - 1) last.now x (sym read) ∙ same ∙ is,
            )
          ],
    )

-- an element is at one place alone
only_place : {X : Type 0} {R : X → X → Ordering} → IsTotalOrder R → (xs : List X) (x : X) (i : ℕ) → IsStrictlySortedBy R xs → i < length xs
    → slice_index_or xs i x ≡ x → (k : ℕ) → k < length xs → slice_index_or xs k x ≡ x → k ≡ i
only_place {X} {R} o xs x i sorted within is k below at =
    let tied : R x x ≡ Equal = tied_itself o x in
    elim (cases_lt k i) as (λ _. k ≡ i) [
      | inl before ↦
          let less : R (slice_index_or xs k x) (slice_index_or xs i x) ≡ Less = Less-from_sorted R xs k i x sorted before within in
          let same : R x x ≡ Less = subst (λ (y : X). R y x ≡ Less) at (subst (λ (y : X). R (slice_index_or xs k x) y ≡ Less) is less) in absurd (cc)
      | inr from ↦
          elim (cases_lt i k) as (λ _. k ≡ i) [
            | inl after ↦
                let less : R (slice_index_or xs i x) (slice_index_or xs k x) ≡ Less = Less-from_sorted R xs i k x sorted after below in
                let same : R x x ≡ Less = subst (λ (y : X). R y x ≡ Less) is (subst (λ (y : X). R (slice_index_or xs i x) y ≡ Less) at less) in absurd (cc)
            | inr upto ↦ omega (arith, from, upto)
          ]
    ]

-- a binary search finds the place of what is there
pub place_in_row : {X : Type 0} {R : X → X → Ordering} → IsTotalOrder R → (xs : List X) (x : X) (r : Result ℕ ℕ) → IsAscending R xs
    → IsSearchInRange r (length xs) → IsBinarySearchResult (λ y. R y x) xs r → MatchOption (result_ok r) (¬ (Contains xs x)) (IsOnlyIndex xs x)
place_in_row o xs x (Ok i) row within found =
    let is = row.exact (slice_index_or xs i x) x (found x) in
    record { within = within; is = is; only = only_place o xs x i row.sorted within is }
place_in_row {R = R} o xs x (Err i) row within parted =
    λ h. not_here o xs x i (parted (searchable_from_sorted o (λ y. y) xs x (sorted_from_strict o xs row.sorted))) h
