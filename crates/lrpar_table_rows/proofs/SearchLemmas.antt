-- The binary search for a number among numbers that ascend.
use Rattle.std.proofs.Common.{◌≡◌, ◌<◌, ◌≤◌, ◌+◌, ◌-◌, ℕ, List, length, map, slice_index, slice_index_or, ◌∙◌, ap, subst, sym, arith, inl, inr}
use Rattle.std.specs.List.{Contains}
use Rattle.std.specs.List.Sorted.{IsStrictlyIncreasing}
use Rattle.std.proofs.lemmas.Bool.{cases_lt}
use Rattle.std.proofs.lemmas.List.{get_or-map, get_or_default, length-map}
use Rattle.std.proofs.lemmas.List.Kept.{AllPairs-from_increasing}

-- `size` places from `base` on are left: the numbers before them are less than the one looked for, those after them greater
pub record IsSearched (ns : List ℕ) (sought base size : ℕ) : Type 0 where
  pub within : base + size ≤ length ns
  pub below : (k : ℕ) → k < base → slice_index ns k < sought
  pub above : (k : ℕ) → base + size ≤ k → k < length ns → sought < slice_index ns k

-- at first all are left
pub searched_first : {X : Type 0} (f : X → ℕ) (xs : List X) (sought : ℕ) → IsSearched (map f xs) sought 0 (length xs)
searched_first f xs sought = record {
  within = rw length-map (omega arith);
  below = λ k h. absurd (omega (arith, h));
  above = λ k low high. let inside : k < length xs = rw length-map at high in absurd (omega (arith, low, inside));
}

-- if the middle one isn't greater, the part from it on is left
pub searched_up : (ns : List ℕ) (sought base size half : ℕ) → IsStrictlyIncreasing ns → IsSearched ns sought base size → half < size
    → slice_index ns (base + half) ≤ sought → IsSearched ns sought (base + half) (size - half)
searched_up ns sought base size half up so_far less here = record {
  within = omega (arith, so_far.within, less);
  below = λ k h. let before = AllPairs-from_increasing ns up k (base + half) 0 h (omega (arith, so_far.within, less)) in omega (arith, before, here);
  above = λ k low high. so_far.above k (omega (arith, low, less)) high;
}

-- if it is greater, the part before it is left, and here one more in some cases
pub searched_down : (ns : List ℕ) (sought base size half : ℕ) → IsStrictlyIncreasing ns → IsSearched ns sought base size → half + half ≤ size
    → sought < slice_index ns (base + half) → IsSearched ns sought base (size - half)
searched_down ns sought base size half up so_far less here = record {
  within = omega (arith, so_far.within, less);
  below = so_far.below;
  above = λ k low high.
      elim (cases_lt (base + half) k) as (λ _. sought < slice_index ns k) [
        | inl after ↦ let more = AllPairs-from_increasing ns up (base + half) k 0 after high in omega (arith, more, here)
        | inr not_after ↦ let same : k ≡ base + half = omega (arith, low, less, not_after) in subst (λ (i : ℕ). sought < slice_index ns i) (sym same) here
      ];
}

-- if none is left, or one that is another number, the number isn't there
pub searched_out : (ns : List ℕ) (sought base size : ℕ) → IsSearched ns sought base size → size ≤ 1 → (size ≡ 1 → ¬ (slice_index ns base ≡ sought))
    → ¬ (Contains ns sought)
searched_out ns sought base size so_far small other there =
    let k = there.0 in
    let is : slice_index ns k ≡ sought = subst (λ (x : ℕ). x ≡ sought) (get_or_default ns k sought 0 there.1) there.2 in
    elim (cases_lt k base) as (λ _. ⊥) [
      | inl before ↦ let less = so_far.below k before in absurd (omega (arith, less, is))
      | inr from ↦
          elim (cases_lt k (base + size)) as (λ _. ⊥) [
            | inl inside ↦
                let one : size ≡ 1 = omega (arith, from, inside, small) in
                let here : k ≡ base = omega (arith, from, inside, small) in
                other one (subst (λ (i : ℕ). slice_index ns i ≡ sought) here is)
            | inr past ↦ let greater = so_far.above k past there.1 in absurd (omega (arith, greater, is))
          ]
    ]

-- the number of an element that was read is the number at its place
pub number_read : {X : Type 0} (f : X → ℕ) (xs : List X) (i : ℕ) (x : X) → i < length xs → x ≡ slice_index_or xs i x → slice_index (map f xs) i ≡ f x
number_read f xs i x below is = get_or-map f xs i x 0 below ∙ ap f (sym is)
