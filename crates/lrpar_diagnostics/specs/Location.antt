-- Ordinals, and the places of parts of a text.
use Rattle.std.specs.Prelude.{◌≡◌, ℕ, ◌%◌, ◌==◌, ◌&&◌, nat_le, Bool, List, ◌++◌, Option, Some, None, codes, if◌then◌else◌}
use Rattle.std.specs.Fmt.{decimal}
use Rattle.std.specs.Str.{IsCharBoundary}
use Rattle.lrpar_grammar_places.specs.Lines.{line_of, column_of}
use Rattle.lrpar_grammar_places.specs.Span.{Extent}
use Rattle.lrpar_diagnostics.specs.Subject.{Subject}

-- messages are about this text, and they name it by this path
abbrev pub HasSource : List ℕ → Subject → Type 0
HasSource text = λ f. f.text ≡ text

abbrev pub HasPath : List ℕ → Subject → Type 0
HasPath path = λ f. f.path ≡ path

-- whether a number ends in 11, 12 or 13
abbrev pub is_teen : ℕ → Bool
is_teen n = nat_le 11 (n % 100) && nat_le (n % 100) 13

-- the suffix of an ordinal, by its last digit
abbrev pub suffix_of_digit : ℕ → List ℕ
suffix_of_digit digit = if digit == 1 then codes "st" else if digit == 2 then codes "nd" else if digit == 3 then codes "rd" else codes "th"

-- an ordinal: `1st`, `2nd`, `3rd`, `4th`, and `th` if the number ends in 11, 12 or 13
abbrev pub ordinal_text : ℕ → List ℕ
ordinal_text n = decimal n ++ (if is_teen n then codes "th" else suffix_of_digit (n % 10))

-- a message, and a path with a line and a column
abbrev pub located : List ℕ → List ℕ → ℕ → ℕ → List ℕ
located message path line column = message ++ codes " at " ++ path ++ codes ":" ++ decimal line ++ codes ":" ++ decimal column

-- a message, and a path with the line and the column of a byte
abbrev pub place_text : Subject → List ℕ → ℕ → List ℕ
place_text f message byte = located message f.path (line_of f.text byte) (column_of f.text byte)

-- a message, and a path with the line and the column of a byte, or 0 and 0 if it is after the end of the text or inside a character
pub record IsPlaceText (f : Subject) (message : List ℕ) (byte : ℕ) (text : List ℕ) : Type 0 where
  pub inside : IsCharBoundary f.text byte → text ≡ place_text f message byte
  pub outside : ¬ IsCharBoundary f.text byte → text ≡ located message f.path 0 0

-- a message, and the place at which a part starts; without a part, the path that it is about
abbrev pub IsLocationText : Subject → List ℕ → Option Extent → List ℕ → Type 0
IsLocationText f message None text = text ≡ message ++ codes " in " ++ f.path
IsLocationText f message (Some span) text = IsPlaceText f message span.start text

-- these are the line and the column of a byte
abbrev pub AreLineAndColumn : List ℕ → ℕ → ℕ × ℕ → Type 0
AreLineAndColumn src byte place = (place.0 ≡ line_of src byte) × (place.1 ≡ column_of src byte)
