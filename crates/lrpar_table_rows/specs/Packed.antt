-- Packed rows: each row has a base, and the slot at the base's offset plus a number shows whether that is a key of the row.
use Rattle.std.specs.Prelude.{◌≡◌, ◌<◌, ◌+◌, ◌⊎◌, ℕ, List, [], MatchOption, Option, Some, length, map, slice_get, slice_index, slice_index_or, slice_set}
use Rattle.std.specs.declared.vec.Vec.{Vec}
use Rattle.lrpar_table_rows.specs.Entries.{key_numbers}
use Rattle.lrpar_table_rows.specs.declared.slots.Base.{Base}
use Rattle.lrpar_table_rows.specs.declared.slots.Slot.{Slot}

-- the slot that this row owns, with this place
abbrev pub slot_of : ℕ → ℕ → Slot
slot_of owner place = record { owner = owner; place = place }

-- the slots show which keys a row with this base has. Complete: each of its keys has a slot, which is the base's owner's, with
-- the place of the key. Sound: if the slot at a number is the owner's, that number is a key of the row, at the slot's place
pub record IsPackedRow (slots : List Slot) (base : Base) (keys : List ℕ) : Type 0 where
  pub complete : (i : ℕ) → i < length keys → slice_get slots (base.offset + slice_index keys i) ≡ Some (slot_of base.owner i)
  pub sound : (k i : ℕ) → slice_get slots (base.offset + k) ≡ Some (slot_of base.owner i) → (i < length keys) × (slice_index keys i ≡ k)

-- the slots show the keys of each row that has a base
abbrev pub IsPacked : List (List ℕ) → List Base → List Slot → Type 0
IsPacked rows bases slots = (r : ℕ) (base : Base) → slice_get bases r ≡ Some base → IsPackedRow slots base (slice_index_or rows r [])

-- each slot is free: its owner is `free`
abbrev pub AreFree : ℕ → List Slot → Type 0
AreFree free slots = (j q i : ℕ) → slice_get slots j ≡ Some (slot_of q i) → q ≡ free

-- the first n keys of the base's owner were put into slots. Each slot that a row below `free` had stayed as it was; each of
-- these keys has its slot; and no other row has a slot that it didn't have
pub record IsPut (keys : List ℕ) (base : Base) (free : ℕ) (old new : List Slot) (n : ℕ) : Type 0 where
  pub kept : (j q i : ℕ) → q < free → slice_get old j ≡ Some (slot_of q i) → slice_get new j ≡ Some (slot_of q i)
  pub put : (i : ℕ) → i < n → slice_get new (base.offset + slice_index keys i) ≡ Some (slot_of base.owner i)
  pub only : (j q i : ℕ) → q < free → slice_get new j ≡ Some (slot_of q i)
      → (slice_get old j ≡ Some (slot_of q i)) ⊎ ((q ≡ base.owner) × (i < n) × (base.offset + slice_index keys i ≡ j))

-- all keys of the base's owner were put into slots
abbrev pub AreAllPut : List ℕ → Base → ℕ → List Slot → List Slot → Type 0
AreAllPut keys base free old new = IsPut keys base free old new (length keys)

-- the slot at the place is there, and free
abbrev pub IsFreeAt : ℕ → List Slot → ℕ → Type 0
IsFreeAt free slots at = (i : ℕ) × (slice_get slots at ≡ Some (slot_of free i))

-- the slot of the number became the owner's, with the place
abbrev pub PutsSlot : Base → ℕ → ℕ → List Slot → List Slot → Type 0
PutsSlot base number place old new = new ≡ slice_set old (base.offset + number) (slot_of base.owner place)

-- the place in the slot of the number, if the slot is the owner's; none if it isn't
abbrev pub FindsSlot : {Z : Type 0} → Vec Slot Z → Base → ℕ → Option ℕ → Type 0
FindsSlot slots base number found =
    MatchOption found ((i : ℕ) → ¬ (slice_get slots.items (base.offset + number) ≡ Some (slot_of base.owner i)))
    (λ place. slice_get slots.items (base.offset + number) ≡ Some (slot_of base.owner place))

-- the slot at j is that of key i of row q, which has a base
pub record IsOwnedAt (rows : List (List ℕ)) (bases : List Base) (j q i : ℕ) : Type 0 where
  pub base : Base
  pub at : slice_get bases q ≡ Some base
  pub within : i < length (slice_index_or rows q [])
  pub key : base.offset + slice_index (slice_index_or rows q []) i ≡ j

-- of the first n rows, those that are the owners of their bases have all their slots; and no row below `free` has others
pub record AreOwned (rows : List (List ℕ)) (bases : List Base) (slots : List Slot) (free n : ℕ) : Type 0 where
  pub put : (q i : ℕ) (base : Base) → q < n → slice_get bases q ≡ Some base → base.owner ≡ q → i < length (slice_index_or rows q [])
      → slice_get slots (base.offset + slice_index (slice_index_or rows q []) i) ≡ Some (slot_of q i)
  pub only : (j q i : ℕ) → q < free → slice_get slots j ≡ Some (slot_of q i) → IsOwnedAt rows bases j q i

-- the owner of the base has this base and these keys
pub record IsShared (rows : List (List ℕ)) (bases : List Base) (base : Base) (keys : List ℕ) : Type 0 where
  pub base_of_owner : slice_get bases base.owner ≡ Some base
  pub keys_of_owner : slice_index_or rows base.owner [] ≡ keys

-- each of the first n rows has the base and the keys of its base's owner
abbrev pub AreShared : List (List ℕ) → List Base → ℕ → Type 0
AreShared rows bases n = (r : ℕ) (base : Base) → r < n → slice_get bases r ≡ Some base → IsShared rows bases base (slice_index_or rows r [])

-- this is the base of the row
abbrev pub IsBaseOf : {Z : Type 0} → Vec Base Z → ℕ → Base → Type 0
IsBaseOf bases row base = slice_get bases.items row ≡ Some base

-- the numbers of the keys of each row
abbrev pub row_keys : {K V Z : Type 0} → (K → ℕ) → List (Vec (K × V) Z) → List (List ℕ)
row_keys number rows = map (λ row. key_numbers number row.items) rows

-- the slots show the keys of each of these rows that has a base
abbrev pub ArePacked : {K V Z Y : Type 0} → (K → ℕ) → List (Vec (K × V) Z) → List Base → Vec Slot Y → Type 0
ArePacked number rows bases slots = IsPacked (row_keys number rows) bases slots.items
