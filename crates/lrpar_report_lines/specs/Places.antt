-- Where a byte or a part of a text lies, if its ends may be inside a character, or after the text's end.
use Rattle.std.specs.Prelude.{◌≡◌, ℕ, ◌<◌, ◌≤◌, ◌∷◌, List, [], length}
use Rattle.std.specs.Str.{IsCharBoundary}
use Rattle.lrpar_grammar_places.specs.Span.{Extent, IsPartOf, nowhere}

-- the boundary of characters to which a byte is moved: the next one from the byte on, and the text's end if the byte is after it
pub record IsNextBoundary (text : List ℕ) (byte : ℕ) (next : ℕ) : Type 0 where
  pub boundary : IsCharBoundary text next
  pub onward : byte ≤ length text → byte ≤ next
  pub nearest : (i : ℕ) → byte ≤ i → i < next → ¬ (IsCharBoundary text i)
  pub beyond : length text < byte → next ≡ length text

-- the part to which a part is moved: each end to its next boundary
pub record IsMovedPart (text : List ℕ) (span : Extent) (place : Extent) : Type 0 where
  pub start : IsNextBoundary text span.start place.start
  pub end : IsNextBoundary text span.end place.end

-- the part starts no earlier than this byte, and no later than it ends, and is cut out of the text between characters
pub record IsPartFrom (text : List ℕ) (byte : ℕ) (part : Extent) : Type 0 where
  pub after : byte ≤ part.start
  pub ordered : part.start ≤ part.end
  pub within : IsPartOf text part

-- the first of some parts, moved; without any, the empty part at the start of the text
abbrev pub IsFirstPlace : List ℕ → List Extent → Extent → Type 0
IsFirstPlace text [] place = place ≡ nowhere
IsFirstPlace text (span ∷ spans) place = IsMovedPart text span place

-- a fault with its place
pub record FaultPlace (E : Type 0) : Type 0 where
  pub fault : E
  pub place : Extent
