-- The erasure of a `.y` file: the same bytes, with blanks in place of the parts that a grammar text doesn't have.
use Rattle.std.specs.Prelude.{◌≡◌, ◌≤◌, ◌==◌, ℕ, List, [], ◌∷◌, ◌++◌, drop, map, slice_range, ◌⊎◌, if◌then◌else◌}
use Rattle.std.specs.Str.{IsCharBoundary}
use Rattle.lrpar_grammar_yacc.specs.declared.parts.YaccKind.{YaccKind}
use Rattle.lrpar_grammar_yacc.specs.declared.text.TextPart.{TextPart}
use Rattle.lrpar_grammar_yacc.specs.Steps.{parts_of}

-- LF for LF, and a space for any other byte
abbrev pub blank_for : ℕ → ℕ
blank_for c = if c == 10 then 10 else 32

-- blanks in place of each byte
abbrev pub blanks : List ℕ → List ℕ
blanks s = map blank_for s

-- the text from that place on: what comes before the first of these parts, blanks for it, and so on after it
abbrev pub erased_from : List ℕ → ℕ → List TextPart → List ℕ
erased_from text place [] = drop place text
erased_from text place (x ∷ xs) = slice_range text place x.start ++ (blanks (slice_range text x.start x.end) ++ erased_from text x.end xs)

-- the erasure of a text: blanks in place of its parts
abbrev pub erasure : YaccKind → List ℕ → List ℕ
erasure kind text = erased_from text 0 (parts_of kind text)

-- a part lies in the text, between two characters at each end
pub record IsPartOfText (text : List ℕ) (x : TextPart) : Type 0 where
  pub body : x.start ≤ x.body
  pub end : x.body ≤ x.end
  pub starts : IsCharBoundary text x.start
  pub ends : IsCharBoundary text x.end

-- the parts lie in the text from that place on, each after the one before
abbrev pub AreApart : List ℕ → ℕ → List TextPart → Type 0
AreApart text place [] = IsCharBoundary text place
AreApart text place (x ∷ xs) = IsCharBoundary text place × (place ≤ x.start) × IsPartOfText text x × AreApart text x.end xs

-- each byte is the same, or the blank for it
abbrev pub AreBlanked : List ℕ → List ℕ → Type 0
AreBlanked [] [] = Unit {0}
AreBlanked (c ∷ s) (d ∷ t) = ((d ≡ c) ⊎ (d ≡ blank_for c)) × AreBlanked s t
AreBlanked _ _ = ⊥
