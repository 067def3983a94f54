-- Rows that lie one after the other in one list, with a list of the places where they begin.
use Rattle.std.specs.Prelude.{◌≡◌, ◌<◌, ◌≤◌, ◌+◌, ◌-◌, ℕ, All, Bool, true, false, List, [], Contains, MatchBool, MatchOption, Option, length, map, slice_index, slice_index_or, slice_range, zip}
use Rattle.std.specs.Fn.{FnReturnsAt}
use Rattle.std.specs.List.{Any, range_with_len}
use Rattle.std.specs.List.Sorted.{IsStrictlyIncreasing}
use Rattle.std.specs.declared.vec.Vec.{Vec}
use denote.Param.Members.{Shared}
use denote.Ref.{Bor}

-- the rows of xs, where row s begins at place s of `starts`, and the last of `starts` is where the last row ends
abbrev pub cut : {X : Type 0} → List ℕ → List X → List (List X)
cut starts xs = map (λ s. slice_range xs (slice_index starts s) (slice_index starts (s + 1))) (range_with_len 0 (length starts - 1))

-- the first place is 0, no place is less than the one before, and the last one is `end`
pub record AreStarts (starts : List ℕ) (end : ℕ) : Type 0 where
  pub some : 0 < length starts
  pub first : slice_index starts 0 ≡ 0
  pub up : (s : ℕ) → s + 1 < length starts → slice_index starts s ≤ slice_index starts (s + 1)
  pub last : slice_index starts (length starts - 1) ≡ end

-- the places divide the list of keys, and there is a value for each key
pub record AreParts {K V : Type 0} (starts : List ℕ) (keys : List K) (values : List V) : Type 0 where
  pub placed : AreStarts starts (length keys)
  pub paired : length values ≡ length keys

-- an entry whose key has this number has this value
abbrev pub HasValue : {K V : Type 0} → (K → ℕ) → List (K × V) → ℕ → V → Type 0
HasValue {K} {V} number entries k v = Contains {X = ℕ × V} (map {B = ℕ × V} (λ entry. (number entry.0, entry.1)) entries) (k, v)

-- row r; out of range, no entries
abbrev pub row_at : {X : Type 0} → List (List X) → ℕ → List X
row_at rows r = slice_index_or rows r []

-- these are the entries of the rows
abbrev pub StoresRows : {X Z : Type 0} → List (Vec X Z) → List (List X) → Type 0
StoresRows rows entries = entries ≡ map (λ row. row.items) rows

-- the entries of these keys and values
abbrev pub entries_of : {K V Z Y : Type 0} → Vec K Z → Vec V Y → List (K × V)
entries_of keys values = zip keys.items values.items

-- the numbers of the keys of entries
abbrev pub key_numbers : {K V : Type 0} → (K → ℕ) → List (K × V) → List ℕ
key_numbers number entries = map (λ entry. number entry.0) entries

-- the keys of entries ascend, each once
abbrev pub KeysAscend : {K V : Type 0} → (K → ℕ) → List (K × V) → Type 0
KeysAscend number entries = IsStrictlyIncreasing (key_numbers number entries)

-- the value of the key; none if no entry has the key
abbrev pub FindsValue : {K V : Type 0} → (K → ℕ) → List (K × V) → K → Option V → Type 0
FindsValue number entries key found =
    MatchOption found (¬ (Contains (key_numbers number entries) (number key))) (λ value. HasValue number entries (number key) value)

-- the place of the entry with the key; none if there is none
abbrev pub FindsEntry : {K V : Type 0} → (K → ℕ) → List (K × V) → K → Option ℕ → Type 0
FindsEntry number entries key found =
    MatchOption found (¬ (Contains (key_numbers number entries) (number key)))
    (λ place. (place < length entries) × (slice_index (key_numbers number entries) place ≡ number key))

-- the place of the key of this number; none if there is none
abbrev pub FindsKey : {K : Type 0} → (K → ℕ) → List K → ℕ → Option ℕ → Type 0
FindsKey number keys sought found =
    MatchOption found (¬ (Contains (map number keys) sought)) (λ place. (place < length keys) × (slice_index (map number keys) place ≡ sought))

-- whether the function returns true for each row
abbrev pub TestsEach : {F X Z : Type 0} → Shared F (Bor (List X) × Unit {0}) Bool → F → List (Vec X Z) → Bool → Type 0
TestsEach calls test rows result =
    MatchBool result (All (λ row. FnReturnsAt calls test row.items true) rows) (Any (λ row. FnReturnsAt calls test row.items false) rows)
