-- Lists of productions that come in parts.
use Rattle.std.specs.Prelude.{◌≡◌, ◌<◌, ◌+◌, ℕ, List, [], ◌++◌, Vec, length, map, slice_get, slice_index_or, take, Option, Some, None}
use Rattle.std.specs.Borrow.{Bor}
use Rattle.std.specs.List.{AllZip, flat_map, range_with_len}
use Rattle.lrpar_grammar_reader.specs.Grammar.{Grammar}
use Rattle.lrpar_grammar.specs.Spelled.{IsListing}

-- the whole list: the texts of the parts, one part after another
abbrev pub joined : List (List (List ℕ)) → List (List ℕ)
joined parts = flat_map (λ texts. texts) parts

-- The text at place `whole` of the whole list is at this place of part number `part`: the part has such a place, and before it come
-- the parts before that one.
pub record IsIndexInPart (parts : List (List (List ℕ))) (whole part place : ℕ) : Type 0 where
  pub within : place < length (slice_index_or parts part [])
  pub is : whole ≡ length (joined (take part parts)) + place

-- a place in the whole list and one in a part are those of one text; or there is neither
abbrev pub IsSameText : List (List (List ℕ)) → Option ℕ → Option (ℕ × ℕ) → Type 0
IsSameText parts None None = Unit {0}
IsSameText parts None (Some at) = ⊥
IsSameText parts (Some whole) None = ⊥
IsSameText parts (Some whole) (Some at) = IsIndexInPart parts whole at.0 at.1

-- The parts list the productions: the whole list does, and each production has the place of its text there, but as a part and a place
-- in it.
pub record IsListingInParts (g : Grammar) (parts : List (List (List ℕ))) (places : List (Option (ℕ × ℕ))) : Type 0 where
  pub whole : List (Option ℕ)
  pub listing : IsListing g (joined parts) whole
  pub same : AllZip (IsSameText parts) whole places

-- for each place of the whole list the part and the place in it
pub record AreIndexesInParts (parts : List (List (List ℕ))) (places : List (ℕ × ℕ)) : Type 0 where
  pub len : length places ≡ length (joined parts)
  pub each : (t : ℕ) → t < length places → IsIndexInPart parts t (slice_index_or places t (0, 0)).0 (slice_index_or places t (0, 0)).1

-- for a place in the whole list the number of its part, and the place in that part
abbrev pub index_in_parts : List (ℕ × ℕ) → Option ℕ → Option (ℕ × ℕ)
index_in_parts places None = None
index_in_parts places (Some whole) = slice_get places whole

-- parts of a list of texts by their bytes
abbrev pub parts_in : List (Bor (List (Bor (List ℕ)))) → List (List (List ℕ))
parts_in parts = map (λ texts. map (λ text. text.now) texts.now) parts

-- the places of a part with this number and this length were appended
abbrev pub AppendsIndexes : {A : Type 0} → Vec (ℕ × ℕ) A → Vec (ℕ × ℕ) A → ℕ → ℕ → Type 0
AppendsIndexes old new part len = new.items ≡ old.items ++ map (λ place. (part, place)) (range_with_len 0 len)
