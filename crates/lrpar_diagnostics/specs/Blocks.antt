-- The text of an error or a warning: a block for each of its places.
use Rattle.std.specs.Prelude.{◌≡◌, ℕ, ◌+◌, ◌-◌, ◌<◌, nat_lt, List, [], ◌∷◌, ◌++◌, Option, IfSome, String, codes, length, if◌then◌else◌, string_bytes}
use Rattle.lrpar_grammar_places.specs.Lines.{line_of}
use Rattle.lrpar_grammar_places.specs.Span.{Extent}
use Rattle.lrpar_grammar_places.specs.declared.span.SpansKind.{SpansKind}
use Rattle.lrpar_grammar_places.specs.declared.span.SpansKind.TheVariants.{Error, DuplicationError, Other}
use Rattle.lrpar_diagnostics.specs.Location.{ordinal_text}
use Rattle.lrpar_diagnostics.specs.Underline.{block_text}

-- the label of the place of this number, which isn't the first
abbrev pub label : SpansKind → ℕ → List ℕ
label Error number = codes "Unrecognized spanskind"
label DuplicationError number = ordinal_text number ++ codes " occurrence"
label Other number = codes "Unrecognized spanskind"

-- dots, if the next place starts more than one line further on
abbrev pub dots : List ℕ → Extent → List Extent → List ℕ
dots src span [] = []
dots src span (next ∷ spans) = if nat_lt 1 (line_of src next.start - line_of src span.start) then codes "..." else []

-- the blocks of the places from this number on, each on a new line
abbrev pub blocks_after : List ℕ → SpansKind → ℕ → List Extent → List ℕ
blocks_after src kind number [] = []
blocks_after src kind number (span ∷ spans) =
    10 ∷ block_text src (dots src span spans) span (label kind number) 94 ++ blocks_after src kind (number + 1) spans

-- the blocks of all places, the first with a message
abbrev pub spanned_text : List ℕ → SpansKind → List Extent → List ℕ → List ℕ
spanned_text src kind [] message = []
spanned_text src kind (span ∷ spans) message = block_text src (dots src span spans) span message 94 ++ blocks_after src kind 2 spans

-- an error has more than one place
abbrev pub HasSeveralSpans : SpansKind → List Extent → Type 0
HasSeveralSpans kind spans = (kind ≡ Error) × (1 < length spans)

-- a text with a message that may be printed
pub record IsDiagnostic (with_message : List ℕ → List ℕ) (printed : Option (List ℕ)) (text : List ℕ) : Type 0 where
  pub message : List ℕ
  pub allowed : IfSome printed (λ bytes. message ≡ bytes)
  pub is : text ≡ with_message message

-- the block of the place of this number, before some others, on a new line
abbrev pub next_block : List ℕ → SpansKind → ℕ → Extent → List Extent → List ℕ
next_block src kind number span others = 10 ∷ block_text src (dots src span others) span (label kind number) 94

-- this is the text of all places of a thing, the first with what may be printed for the thing
abbrev pub IsShown : {X : Type 0} → (SpansKind → List Extent → List ℕ → List ℕ) → (X → SpansKind) → (X → List Extent) → (X → Option (List ℕ)) → X → List ℕ → Type 0
IsShown shown kind places printed thing = λ text. IsDiagnostic (shown (kind thing) (places thing)) (printed thing) text

-- the string is the text of all places of a thing, the first with what may be printed for the thing
abbrev pub ShowsThing : {X A : Type 0} → (SpansKind → List Extent → List ℕ → List ℕ) → (X → SpansKind) → (X → List Extent) → (X → Option (List ℕ)) → X → String A → Type 0
ShowsThing shown kind places printed thing = λ text. IsDiagnostic (shown (kind thing) (places thing)) (printed thing) (string_bytes text)
