-- Rows in ascending order.
use Rattle.std.specs.Prelude.{◌≡◌, ◌<◌, ◌↔◌, ◌∷◌, ◌++◌, ℕ, List, [], MatchOption, Option, length, slice_index_or}
use Rattle.std.specs.List.{Contains}
use Rattle.std.specs.List.Sorted.{IsStrictlySortedBy}
use Rattle.std.specs.declared.vec.Vec.{Vec}
use Rattle.std.specs.declared.cmp.Ordering.{Ordering}
use Rattle.std.specs.declared.cmp.Ordering.TheVariants.{Equal}

-- elements that compare equal are the same
abbrev pub ComparesExactly : {X : Type 0} → (X → X → Ordering) → Type 0
ComparesExactly {X} cmp = (x y : X) → cmp x y ≡ Equal → x ≡ y

-- each element comes before those after it, and elements that compare equal are the same
pub record IsAscending {X : Type 0} (cmp : X → X → Ordering) (xs : List X) : Type 0 where
  pub sorted : IsStrictlySortedBy cmp xs
  pub exact : ComparesExactly cmp

-- the lists have the same elements, in any order and each any number of times
abbrev pub HaveSame : {X : Type 0} → List X → List X → Type 0
HaveSame {X} xs ys = (x : X) → Contains xs x ↔ Contains ys x

-- the element is at the place, and at no other
pub record IsOnlyIndex {X : Type 0} (xs : List X) (x : X) (place : ℕ) : Type 0 where
  pub within : place < length xs
  pub is : slice_index_or xs place x ≡ x
  pub only : (k : ℕ) → k < length xs → slice_index_or xs k x ≡ x → k ≡ place

-- the only place of the element; none if it isn't there
abbrev pub FindsOnlyIndex : {X : Type 0} → List X → X → Option ℕ → Type 0
FindsOnlyIndex xs x found = MatchOption found (¬ (Contains xs x)) (IsOnlyIndex xs x)

-- the elements are those that were there, and this one
abbrev pub AddsElement : {X Z : Type 0} → X → Vec X Z → Vec X Z → Type 0
AddsElement x old new = HaveSame new.items (old.items ++ x ∷ [])
