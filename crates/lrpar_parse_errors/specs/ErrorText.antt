-- The texts of lexing errors and of parse errors, over the bytes of the input.
use Rattle.std.specs.Prelude.{◌≡◌, ℕ, List, [], ◌∷◌, ◌++◌, ◌+◌, ◌-◌, Option, codes, length, map, replicate}
use Rattle.std.specs.Fmt.{decimal}
use Rattle.std.specs.List.{AllByRecursion, AllZip, flat_map}
use Rattle.lrpar_grammar_places.specs.Lines.{line_of, column_of}
use Rattle.lrpar_grammar_places.specs.Span.{Extent}
use Rattle.lrpar_grammar.specs.SpansFit.{IsPartOf}
use Rattle.lrpar_parse_lexemes.specs.Repair.{Repair}
use Rattle.lrpar_parse_errors.specs.Failure.{Failure}
use Rattle.lrpar_parse_lexemes.specs.PrintedSequence.{parts_of}
use Rattle.lrpar_parse_errors.specs.SequenceText.{IsPartsText, RepairsFit, inserted}

-- how many decimal digits a number has
abbrev pub digits : ℕ → ℕ
digits n = length (decimal n)

-- a text that says what is wrong, and the line and the column of a byte of the input
abbrev pub place_text : List ℕ → List ℕ → ℕ → List ℕ
place_text what input byte = what ++ codes " at line " ++ decimal (line_of input byte) ++ codes " column " ++ decimal (column_of input byte) ++ codes "."

-- a text that says what is wrong, and at which byte of the input
abbrev pub byte_text : List ℕ → ℕ → List ℕ
byte_text what byte = what ++ codes " at byte " ++ decimal byte ++ codes "."

-- what comes before sequence i: its number, right-aligned in a column for numbers of at most `most` digits
abbrev pub numbering : ℕ → ℕ → List ℕ
numbering most i = 10 ∷ codes "  " ++ replicate (most - digits i + 1) 32 ++ decimal i ++ codes ": "

-- sequences from number i on, each after its number
abbrev pub numbered : ℕ → ℕ → List (List ℕ) → List ℕ
numbered most i [] = []
numbered most i (text ∷ texts) = numbering most i ++ text ++ numbered most (i + 1) texts

-- the texts of the sequences of an error, or a text that says that there are none
abbrev pub repairs_text : List (List ℕ) → List ℕ
repairs_text [] = codes " No repair sequences found."
repairs_text (text ∷ texts) = codes " Repair sequences found:" ++ numbered (digits (length (text ∷ texts))) 1 (text ∷ texts)

-- the text of a parse error
pub record IsFailureText {X : Type 0} (span : X → Extent) (names : ℕ → Option (List ℕ) → Type 0) (input : List ℕ) (e : Failure X) (text : List ℕ) : Type 0 where
  pub sequences : List (List ℕ)
  pub each : AllZip (IsPartsText names input) (map (parts_of span) e.repairs) sequences
  pub is : text ≡ place_text (codes "Parsing error") input (span e.lexeme).start ++ repairs_text sequences

-- each part of the input that a parse error names starts and ends between two characters of the input
pub record FailureFits {X : Type 0} (span : X → Extent) (input : List ℕ) (e : Failure X) : Type 0 where
  pub lexeme : IsPartOf input (span e.lexeme)
  pub repairs : AllByRecursion (RepairsFit span input) e.repairs

-- the tokens that the sequences of an error would insert, in the order in which they are printed
abbrev pub tokens_of : {X : Type 0} → (X → Extent) → List (List (Repair X)) → List ℕ
tokens_of span sequences = flat_map inserted (map (parts_of span) sequences)
