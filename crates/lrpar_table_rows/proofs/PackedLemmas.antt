-- Packed rows, and how they are filled.
use Rattle.std.proofs.Common.{◌≡◌, ◌≢◌, ◌<◌, ◌+◌, ◌++◌, ◌∙◌, ◌⊎◌, ℕ, zero, suc, List, [], ◌∷◌, MatchOption, Option, Some, None, length, map, take, slice_get, slice_set, slice_index, slice_index_or, refl, inl, inr, ap, sym, subst, arith}
use Rattle.std.proofs.lemmas.Bool.{cases_eq, cases_lt}
use Rattle.std.specs.List.{Contains, zip}
use Rattle.std.proofs.lemmas.List.{get_or-map, get_or_default, length-map, take-append-le, take_all}
use Rattle.std.proofs.lemmas.Option.{slice_get-get_or, slice_get_within}
use Rattle.lrpar_table_rows.specs.declared.slots.Base.{Base}
use Rattle.lrpar_table_rows.specs.declared.slots.Slot.{Slot}
use Rattle.lrpar_table_rows.proofs.EntryLemmas.{keys_of-map, keys_of-pairs, pair_at}
use Rattle.lrpar_table_rows.proofs.RowLemmas.{map-map}
use Rattle.lrpar_table_rows.specs.Packed.{AreFree, AreOwned, AreShared, IsOwnedAt, IsPacked, IsPackedRow, IsPut, IsShared, slot_of}

-- the element that was written
pub get_set_same : {X : Type 0} (xs : List X) (i : ℕ) (x : X) → i < length xs → slice_get (slice_set xs i x) i ≡ Some x
get_set_same [] i x below = absurd (omega (arith, below))
get_set_same (y ∷ xs) zero x below = refl
get_set_same (y ∷ xs) (suc i) x below = get_set_same xs i x (omega (arith, below))

-- the other elements stay
pub get_set_other : {X : Type 0} (xs : List X) (i j : ℕ) (x : X) → j ≢ i → slice_get (slice_set xs i x) j ≡ slice_get xs j
get_set_other [] i j x other = refl
get_set_other (y ∷ xs) zero zero x other = absurd (other refl)
get_set_other (y ∷ xs) zero (suc j) x other = refl
get_set_other (y ∷ xs) (suc i) zero x other = refl
get_set_other (y ∷ xs) (suc i) (suc j) x other = get_set_other xs i j x (λ same. other (ap suc same))

-- the owner and the place of a slot
pub same_owner : (q i p k : ℕ) → Some (slot_of q i) ≡ Some (slot_of p k) → q ≡ p
same_owner q i p k same = let slots : slot_of q i ≡ slot_of p k = cc in ap (λ (s : Slot). s.owner) slots

pub same_place : (q i p k : ℕ) → Some (slot_of q i) ≡ Some (slot_of p k) → i ≡ k
same_place q i p k same = let slots : slot_of q i ≡ slot_of p k = cc in ap (λ (s : Slot). s.place) slots

-- at first no keys were put
pub put_first : (keys : List ℕ) (base : Base) (free : ℕ) (slots : List Slot) → IsPut keys base free slots slots 0
put_first keys base free slots = record {
  kept = λ j q i less at. at;
  put = λ i below. absurd (omega (arith, below));
  only = λ j q i less at. inl at;
}

-- one more key
module _ (keys : List ℕ) (base : Base) (free : ℕ) (old slots after : List Slot) (n number k : ℕ) (so_far : IsPut keys base free old slots n)
    (owner : base.owner < free) (is : number ≡ slice_index keys n) (was : slice_get slots (base.offset + number) ≡ Some (slot_of free k))
    (now : after ≡ slice_set slots (base.offset + number) (slot_of base.owner n)) where
  -- a slot that a row has is another one
  other_slot : (j q i : ℕ) → q < free → slice_get slots j ≡ Some (slot_of q i) → j ≢ base.offset + number
  other_slot j q i less at same =
      let free_there : slice_get slots j ≡ Some (slot_of free k) = subst (λ (m : ℕ). slice_get slots m ≡ Some (slot_of free k)) (sym same) was in
      let q_is : q ≡ free = same_owner q i free k (sym at ∙ free_there) in
      omega (arith, q_is, less)

  -- so it stays
  slot_stays : (j q i : ℕ) → q < free → slice_get slots j ≡ Some (slot_of q i) → slice_get after j ≡ Some (slot_of q i)
  slot_stays j q i less at = rw now (get_set_other slots (base.offset + number) j (slot_of base.owner n) (other_slot j q i less at) ∙ at)

  -- the slot of the key
  slot_written : slice_get after (base.offset + number) ≡ Some (slot_of base.owner n)
  slot_written = rw now (get_set_same slots (base.offset + number) (slot_of base.owner n) (slice_get_within slots (base.offset + number) (slot_of free k) was))

  pub put_more : IsPut keys base free old after (n + 1)
  put_more = record {
    kept = λ j q i less at. slot_stays j q i less (so_far.kept j q i less at);
    put = λ i below.
        elim (cases_lt i n) as (λ _. slice_get after (base.offset + slice_index keys i) ≡ Some (slot_of base.owner i)) [
          | inl before ↦ slot_stays (base.offset + slice_index keys i) base.owner i owner (so_far.put i before)
          | inr not_before ↦
              let last : n ≡ i = omega (arith, below, not_before) in
              subst (λ (m : ℕ). slice_get after (base.offset + slice_index keys m) ≡ Some (slot_of base.owner m)) last
              (subst (λ (m : ℕ). slice_get after (base.offset + m) ≡ Some (slot_of base.owner n)) is slot_written)
        ];
    only = λ j q i less at.
        elim (cases_eq j (base.offset + number)) as (λ _. (slice_get old j ≡ Some (slot_of q i)) ⊎ ((q ≡ base.owner) × (i < n + 1) × (base.offset + slice_index keys i ≡ j))) [
          | inl same ↦
              let here : slice_get after j ≡ Some (slot_of base.owner n) = subst (λ (m : ℕ). slice_get after m ≡ Some (slot_of base.owner n)) (sym same) slot_written in
              let both : Some (slot_of q i) ≡ Some (slot_of base.owner n) = sym at ∙ here in
              let place : i ≡ n = same_place q i base.owner n both in
              inr (same_owner q i base.owner n both, omega (arith, place), ap (λ (m : ℕ). base.offset + slice_index keys m) place ∙ (ap (λ (m : ℕ). base.offset + m) (sym is) ∙ sym same))
          | inr other ↦
              let before : slice_get slots j ≡ Some (slot_of q i) = sym (get_set_other slots (base.offset + number) j (slot_of base.owner n) other) ∙ (rw now at at) in
              elim (so_far.only j q i less before) as (λ _. (slice_get old j ≡ Some (slot_of q i)) ⊎ ((q ≡ base.owner) × (i < n + 1) × (base.offset + slice_index keys i ≡ j))) [
                | inl old_one ↦ inl old_one
                | inr put_now ↦ inr (put_now.0, omega (arith, put_now.1), put_now.2)
              ]
        ];
  }

-- at first no row has slots
pub owned_first : (rows : List (List ℕ)) (bases : List Base) (slots : List Slot) (free : ℕ) → AreFree free slots → AreOwned rows bases slots free 0
owned_first rows bases slots free are_free = record {
  put = λ q i base below. absurd (omega (arith, below));
  only = λ j q i less at. let q_is = are_free j q i at in absurd (omega (arith, q_is, less));
}

-- two bases that were read at one place
pub same_base : (bases : List Base) (q r : ℕ) (one other : Base) → q ≡ r → slice_get bases q ≡ Some one → slice_get bases r ≡ Some other → one ≡ other
same_base bases q r one other same at_one at_other =
    let both : Some one ≡ Some other = sym at_one ∙ (ap (slice_get bases) same ∙ at_other) in cc

-- one more row, which owns its slots
pub owned_more : (rows : List (List ℕ)) (bases : List Base) (old new : List Slot) (free n : ℕ) (base : Base) → AreOwned rows bases old free n
    → slice_get bases n ≡ Some base → base.owner ≡ n → n < free
    → IsPut (slice_index_or rows n []) base free old new (length (slice_index_or rows n [])) → AreOwned rows bases new free (n + 1)
owned_more rows bases old new free n base so_far at owner below put = record {
  put = λ q i b before at_q own within.
      elim (cases_lt q n) as (λ _. slice_get new (b.offset + slice_index (slice_index_or rows q []) i) ≡ Some (slot_of q i)) [
        | inl earlier ↦
            put.kept (b.offset + slice_index (slice_index_or rows q []) i) q i (omega (arith, earlier, below)) (so_far.put q i b earlier at_q own within)
        | inr not_earlier ↦
            let last : q ≡ n = omega (arith, before, not_earlier) in
            let same : b ≡ base = same_base bases q n b base last at_q at in
            let inside : i < length (slice_index_or rows n []) = subst (λ (m : ℕ). i < length (slice_index_or rows m [])) last within in
            subst (λ (b : Base). slice_get new (b.offset + slice_index (slice_index_or rows q []) i) ≡ Some (slot_of q i)) (sym same)
            (subst (λ (m : ℕ). slice_get new (base.offset + slice_index (slice_index_or rows m []) i) ≡ Some (slot_of m i)) (sym last)
            (subst (λ (m : ℕ). slice_get new (base.offset + slice_index (slice_index_or rows n []) i) ≡ Some (slot_of m i)) owner (put.put i inside)))
      ];
  only = λ j q i less at_j.
      elim (put.only j q i less at_j) as (λ _. IsOwnedAt rows bases j q i) [
        | inl before ↦ so_far.only j q i less before
        | inr now ↦
            let last : n ≡ q = sym owner ∙ sym now.0 in
            subst (λ (m : ℕ). IsOwnedAt rows bases j m i) last (record { base = base; at = at; within = now.1; key = now.2 })
      ];
}

-- one more row, which shares the slots of another
pub owned_skip : (rows : List (List ℕ)) (bases : List Base) (slots : List Slot) (free n : ℕ) (base : Base) → AreOwned rows bases slots free n
    → slice_get bases n ≡ Some base → base.owner ≢ n → AreOwned rows bases slots free (n + 1)
owned_skip rows bases slots free n base so_far at other = record {
  put = λ q i b before at_q own within.
      elim (cases_lt q n) as (λ _. slice_get slots (b.offset + slice_index (slice_index_or rows q []) i) ≡ Some (slot_of q i)) [
        | inl earlier ↦ so_far.put q i b earlier at_q own within
        | inr not_earlier ↦
            let last : q ≡ n = omega (arith, before, not_earlier) in
            let same : b ≡ base = same_base bases q n b base last at_q at in
            absurd (other (ap (λ (b : Base). b.owner) (sym same) ∙ (own ∙ last)))
      ];
  only = so_far.only;
}

-- one more row that has the base and the keys of its owner
pub shared_more : (rows : List (List ℕ)) (bases : List Base) (n : ℕ) (base : Base) → AreShared rows bases n → slice_get bases n ≡ Some base
    → IsShared rows bases base (slice_index_or rows n []) → AreShared rows bases (n + 1)
shared_more rows bases n base so_far at shared r b below at_r =
    elim (cases_lt r n) as (λ _. IsShared rows bases b (slice_index_or rows r [])) [
      | inl before ↦ so_far r b before at_r
      | inr not_before ↦
          let last : r ≡ n = omega (arith, below, not_before) in
          let same : b ≡ base = same_base bases r n b base last at_r at in
          subst (λ (m : ℕ). IsShared rows bases b (slice_index_or rows m [])) (sym last)
          (subst (λ (b : Base). IsShared rows bases b (slice_index_or rows n [])) (sym same) shared)
    ]

-- if the owners have their slots, and all others the bases and the keys of their owners, the rows are packed
pub all_packed : (rows : List (List ℕ)) (bases : List Base) (slots : List Slot) (n : ℕ) → length bases ≡ n
    → AreOwned rows bases slots n n → AreShared rows bases n → IsPacked rows bases slots
all_packed rows bases slots n len owned shared r base at =
    let below : r < n = omega (arith, len, slice_get_within bases r base at) in
    let to_owner = shared r base below at in
    let owner_below : base.owner < n = omega (arith, len, slice_get_within bases base.owner base to_owner.base_of_owner) in
    subst (λ (keys : List ℕ). IsPackedRow slots base keys) to_owner.keys_of_owner
    (record {
      complete = λ i within. owned.put base.owner i base owner_below to_owner.base_of_owner refl within;
      sound = λ k i at_k.
          let found = owned.only (base.offset + k) base.owner i owner_below at_k in
          let same : found.base ≡ base = same_base bases base.owner base.owner found.base base refl found.at to_owner.base_of_owner in
          let offset : found.base.offset ≡ base.offset = ap (λ (b : Base). b.offset) same in
          (found.within, omega (arith, found.key, offset));
    })

-- the keys of a row that was read
row_keys : {R E : Type 0} (rows : List R) (items : R → List E) (number : E → ℕ) (i : ℕ) (row : R) → i < length rows → row ≡ slice_index_or rows i row
    → slice_index_or (map (λ r. map number (items r)) rows) i [] ≡ map number (items row)
row_keys rows items number i row below is =
    get_or-map (λ r. map number (items r)) rows i row [] below ∙ ap (λ r. map number (items r)) (sym is)

-- a base that was read
pub base_at : (bases : List Base) (i : ℕ) → i < length bases → slice_get bases i ≡ Some (slice_index_or bases i (record { offset = 0; owner = 0 }))
base_at bases i below = slice_get-get_or bases i (record { offset = 0; owner = 0 }) below

-- bases with the same parts
same_parts : (one other : Base) → one.offset ≡ other.offset → one.owner ≡ other.owner → one ≡ other
same_parts one other offset owner =
    let base : ℕ → ℕ → Base = λ o w. record { offset = o; owner = w } in
    ap (λ (o : ℕ). base o one.owner) offset ∙ ap (λ (w : ℕ). base other.offset w) owner

-- rows of code, each a list of entries whose keys have numbers
module _ {R E : Type 0} (rows : List R) (items : R → List E) (number : E → ℕ) (bases : List Base) where
  -- one more row, which owns its slots
  pub owned_row : (old new : List Slot) (free n : ℕ) (base : Base) (row : R) (read : List E)
      → AreOwned (map (λ r. map number (items r)) rows) bases old free n
      → n < length rows → row ≡ slice_index_or rows n row → read ≡ items row
      → slice_get bases n ≡ Some base → base.owner ≡ n → n < free → IsPut (map number read) base free old new (length (map number read))
      → AreOwned (map (λ r. map number (items r)) rows) bases new free (n + 1)
  owned_row old new free n base row read so_far below is read_is at owner fits put =
      let keys = row_keys rows items number n row below is in
      owned_more (map (λ r. map number (items r)) rows) bases old new free n base so_far at owner fits
      (subst (λ (ks : List ℕ). IsPut ks base free old new (length ks)) (ap (map number) read_is ∙ sym keys) put)

  -- one more row that has the base and the keys of its owner
  pub shared_row : (n : ℕ) (base : Base) (row : R) (read : List E) → AreShared (map (λ r. map number (items r)) rows) bases n
      → n < length rows → row ≡ slice_index_or rows n row → read ≡ items row
      → slice_get bases n ≡ Some base → IsShared (map (λ r. map number (items r)) rows) bases base (map number read)
      → AreShared (map (λ r. map number (items r)) rows) bases (n + 1)
  shared_row n base row read so_far below is read_is at shared =
      let keys = row_keys rows items number n row below is in
      shared_more (map (λ r. map number (items r)) rows) bases n base so_far at
      (subst (λ (ks : List ℕ). IsShared (map (λ r. map number (items r)) rows) bases base ks) (ap (map number) read_is ∙ sym keys) shared)

  -- a base whose owner has the same base and keys
  pub owner_shares : (base : Base) (owner : R) (read : List E) (keys : List ℕ) → base.owner < length rows → length bases ≡ length rows
      → (slice_index_or bases base.owner (record { offset = 0; owner = 0 })).offset ≡ base.offset
      → (slice_index_or bases base.owner (record { offset = 0; owner = 0 })).owner ≡ base.owner
      → owner ≡ slice_index_or rows base.owner owner → read ≡ items owner → map number read ≡ keys
      → IsShared (map (λ r. map number (items r)) rows) bases base keys
  owner_shares base owner read keys below len offset own is read_is same = record {
    base_of_owner =
        base_at bases base.owner (omega (arith, below, len))
        ∙ ap (λ (b : Base). Some b) (same_parts (slice_index_or bases base.owner (record { offset = 0; owner = 0 })) base offset own);
    keys_of_owner = row_keys rows items number base.owner owner below is ∙ (ap (map number) (sym read_is) ∙ same);
  }

-- the slots that were lent and came back are packed
pub packed_back : (rows : List (List ℕ)) (bases : List Base) (slots rest : List Slot) (len free n : ℕ) → len ≡ length slots → length bases ≡ n → n ≡ free
    → AreOwned rows bases slots free free → AreShared rows bases n → IsPacked rows bases (take len (slots ++ rest))
packed_back rows bases slots rest len free n same some is owned shared =
    let whole : take len (slots ++ rest) ≡ slots = take-append-le len slots rest (omega (arith, same)) ∙ take_all len slots (omega (arith, same)) in
    let owned_all : AreOwned rows bases slots n n = subst (λ (m : ℕ). AreOwned rows bases slots m m) (sym is) owned in
    subst (λ (s : List Slot). IsPacked rows bases s) (sym whole) (all_packed rows bases slots n some owned_all shared)

-- packed rows are packed in the lists that they were copied to
pub packed_cut : {R E : Type 0} (rows : List R) (items : R → List E) (number : E → ℕ) (cuts : List (List E)) (bases : List Base) (slots : List Slot)
    → cuts ≡ map items rows → IsPacked (map (λ r. map number (items r)) rows) bases slots → IsPacked (map (λ es. map number es) cuts) bases slots
packed_cut rows items number cuts bases slots is packed =
    subst (λ (ks : List (List ℕ)). IsPacked ks bases slots)
    (sym (ap (map (λ es. map number es)) is ∙ map-map items (λ es. map number es) rows)) packed

-- what the slot of a number says is right for a row
pub place_in_row : {E : Type 0} (rows : List (List E)) (number : E → ℕ) (bases : List Base) (slots : List Slot) (r k : ℕ) (base : Base) (result : Option ℕ)
    → IsPacked (map (λ es. map number es) rows) bases slots → r < length rows → slice_get bases r ≡ Some base
    → MatchOption result ((i : ℕ) → ¬ (slice_get slots (base.offset + k) ≡ Some (slot_of base.owner i)))
    (λ place. slice_get slots (base.offset + k) ≡ Some (slot_of base.owner place))
    → MatchOption result (¬ (Contains (map number (slice_index_or rows r [])) k))
    (λ place. (place < length (slice_index_or rows r [])) × (slice_index (map number (slice_index_or rows r [])) place ≡ k))
place_in_row {E} rows number bases slots r k base None packed below at none =
    λ there.
    let row : List E = slice_index_or rows r [] in
    let keys : slice_index_or (map (λ es. map number es) rows) r [] ≡ map number row = get_or-map (λ es. map number es) rows r [] [] below in
    let is_packed : IsPackedRow slots base (map number row) = subst (λ (ks : List ℕ). IsPackedRow slots base ks) keys (packed r base at) in
    let is : slice_index (map number row) there.0 ≡ k = get_or_default (map number row) there.0 0 k there.1 ∙ there.2 in
    none there.0 (subst (λ (m : ℕ). slice_get slots (base.offset + m) ≡ Some (slot_of base.owner there.0)) is (is_packed.complete there.0 there.1))
place_in_row {E} rows number bases slots r k base (Some place) packed below at found =
    let row : List E = slice_index_or rows r [] in
    let keys : slice_index_or (map (λ es. map number es) rows) r [] ≡ map number row = get_or-map (λ es. map number es) rows r [] [] below in
    let is_packed : IsPackedRow slots base (map number row) = subst (λ (ks : List ℕ). IsPackedRow slots base ks) keys (packed r base at) in
    let here = is_packed.sound k place found in
    (rw length-map at here.0, here.1)

-- the same, where the rows are given by their parts
pub place_read : {E : Type 0} (cuts rows : List (List E)) (number : E → ℕ) (bases : List Base) (slots : List Slot) (r k : ℕ) (base : Base) (result : Option ℕ)
    → cuts ≡ rows → IsPacked (map (λ es. map number es) cuts) bases slots → r < length rows → slice_get bases r ≡ Some base
    → MatchOption result ((i : ℕ) → ¬ (slice_get slots (base.offset + k) ≡ Some (slot_of base.owner i)))
    (λ place. slice_get slots (base.offset + k) ≡ Some (slot_of base.owner place))
    → MatchOption result (¬ (Contains (map number (slice_index_or rows r [])) k))
    (λ place. (place < length (slice_index_or rows r [])) × (slice_index (map number (slice_index_or rows r [])) place ≡ k))
place_read {E} cuts rows number bases slots r k base result is packed below at slot =
    place_in_row rows number bases slots r k base result (subst (λ (rs : List (List E)). IsPacked (map (λ es. map number es) rs) bases slots) is packed) below at slot

-- keys with their values, which are the entries of a row
module _ {K V : Type 0} (number : K → ℕ) (ks : List K) (vs : List V) (es : List (K × V)) (paired : length vs ≡ length ks) (is : zip ks vs ≡ es) where
  -- the numbers of the keys are those of the entries
  pub numbers_are : map number ks ≡ map (λ e. number e.0) es
  numbers_are = sym (keys_of-pairs number (λ v. v) ks vs paired) ∙ (keys_of-map number (λ v. v) (zip ks vs) ∙ ap (map (λ e. number e.0)) is)

  -- there are as many
  pub keys_len : length ks ≡ length es
  keys_len =
      let same = ap length numbers_are in
      let of_keys = length-map ks number in
      let of_entries = length-map es (λ e. number e.0) in
      omega (arith, same, of_keys, of_entries)

  -- what the search says of the keys is right for the entries
  pub searched_in_row : (k : ℕ) (result : Option ℕ)
      → MatchOption result (¬ (Contains (map number ks) k)) (λ place. (place < length ks) × (slice_index (map number ks) place ≡ k))
      → MatchOption result (¬ (Contains (map (λ e. number e.0) es) k)) (λ place. (place < length es) × (slice_index (map (λ e. number e.0) es) place ≡ k))
  searched_in_row k None none = subst (λ (ns : List ℕ). ¬ (Contains ns k)) numbers_are none
  searched_in_row k (Some place) found = (omega (arith, found.0, keys_len), subst (λ (ns : List ℕ). slice_index ns place ≡ k) numbers_are found.1)

  -- the value that was read is that of the key
  pub value_read : (place k : ℕ) (v : V) → place < length es → slice_index (map (λ e. number e.0) es) place ≡ k → v ≡ slice_index_or vs place v
      → Contains {X = ℕ × V} (map (λ e. (number e.0, e.1)) es) (k, v)
  value_read place k v below key at =
      subst (λ (rows : List (K × V)). Contains {X = ℕ × V} (map (λ e. (number e.0, e.1)) rows) (k, v)) is
      (pair_at number (λ w. w) ks vs place k v paired (omega (arith, below, keys_len)) (subst (λ (ns : List ℕ). slice_index ns place ≡ k) (sym numbers_are) key) at)
