-- Repair sequences and their parts as they are stored, and their texts. `index` gives the number of a value of the storage type, `parts` the
-- parts of a lexeme, and `names` says what is printed for a token.
use Rattle.std.specs.Prelude.{◌↔◌, ℕ, Bool, IsTrue, List, OnOk, Option, Result, String, Vec, map}
use Rattle.std.specs.List.{AllByRecursion, AllZip}
use Rattle.lrpar_grammar_places.specs.Span.{IsPartOf}
use Rattle.lrpar_grammar_places.specs.Strings.{Appends}
use Rattle.lrpar_parse_lexemes.specs.Lexemes.{LexemeParts}
use Rattle.lrpar_parse_lexemes.specs.Repairs.{repairs_of}
use Rattle.lrpar_parse_lexemes.specs.declared.pp_fault.PpFault.{PpFault}
use Rattle.lrpar_parse_lexemes.specs.declared.repairs.ParseRepair.{ParseRepair}
use Rattle.lrpar_parse_lexemes.specs.declared.repairs.ParseRepair.TheVariants as stored
use Rattle.lrpar_parse_errors.specs.ErrorText.{repairs_text, tokens_of}
use Rattle.lrpar_parse_errors.specs.Printed.{IsPpFault}
use Rattle.lrpar_parse_lexemes.specs.PrintedSequence.{parts_of}
use Rattle.lrpar_parse_lexemes.specs.PrintedParts.{part_of, sequence_parts}
use Rattle.lrpar_parse_errors.specs.SequenceText.{IsPartText, IsPartsText, PartFits, RepairsFit, inserted, inserted_by}
use Rattle.lrpar_parse_lexemes.specs.declared.printed_parts.Part.{Part}

-- the part of the input that a printed part names starts and ends between two characters of the input
abbrev pub FitsPart : {S : Type 0} → (S → ℕ) → List ℕ → Part S → Type 0
FitsPart index input part = PartFits input (part_of index part)

-- if the call succeeded, the text of the part was added
abbrev pub PushesPart : {S A T E : Type 0} → (S → ℕ) → (ℕ → Option (List ℕ) → Type 0) → List ℕ → Part S → String A → String A → Result T E → Type 0
PushesPart index names input part old new result = OnOk result ((text : List ℕ) × Appends old new text × IsPartText names input (part_of index part) text)

-- the fault names the part's token, for which nothing is printed, or is `Memory`
abbrev pub IsPartFault : {S : Type 0} → (S → ℕ) → (ℕ → Option (List ℕ) → Type 0) → Part S → PpFault S → Type 0
IsPartFault index names part = IsPpFault index names (inserted_by (part_of index part))

module _ {S X : Type 0} (parts : X → LexemeParts S) (input : List ℕ) where
  -- the part of the input that the repair names starts and ends between two characters of the input
  abbrev pub FitsRepair : ParseRepair X S → Type 0
  FitsRepair (stored.Insert token) = Unit {0}
  FitsRepair (stored.Delete lexeme) = IsPartOf input (parts lexeme).span
  FitsRepair (stored.Shift lexeme) = IsPartOf input (parts lexeme).span

  -- the part of the input that each repair of a sequence names starts and ends between two characters of the input
  abbrev pub FitRepairs : List (ParseRepair X S) → Type 0
  FitRepairs sequence = AllByRecursion FitsRepair sequence

  -- true exactly if the part of the input that the repair names starts and ends between two characters of the input
  abbrev pub TellsIfFits : ParseRepair X S → Bool → Type 0
  TellsIfFits repair fits = IsTrue fits ↔ FitsRepair repair

  -- true exactly if the part of the input that each repair of a sequence names starts and ends between two characters of the input
  abbrev pub TellsIfFit : List (ParseRepair X S) → Bool → Type 0
  TellsIfFit sequence fit = IsTrue fit ↔ FitRepairs sequence

module _ {S X : Type 0} (index : S → ℕ) (parts : X → LexemeParts S) where
  -- the part of the input that each repair of each sequence names starts and ends between two characters of the input
  abbrev pub FitSequences : {A : Type 0} → List ℕ → List (Vec (ParseRepair X S) A) → Type 0
  FitSequences input sequences = AllByRecursion (RepairsFit (λ x. (parts x).span) input) (repairs_of index sequences)

  module _ (names : ℕ → Option (List ℕ) → Type 0) where
    -- if the call succeeded, the text of the sequence was added
    abbrev pub PushesSequence : {A B T E : Type 0} → List ℕ → Vec (ParseRepair X S) B → String A → String A → Result T E → Type 0
    PushesSequence input sequence old new result =
        OnOk result ((text : List ℕ) × Appends old new text × IsPartsText names input (sequence_parts index (λ x. (parts x).span) sequence.items) text)

    -- if the call succeeded, the texts of the sequences were added, each after its number, or the words that there are none
    abbrev pub PushesRepairs : {A B T E : Type 0} → List ℕ → List (Vec (ParseRepair X S) B) → String A → String A → Result T E → Type 0
    PushesRepairs input sequences old new result =
        OnOk result ((texts : List (List ℕ)) × Appends old new (repairs_text texts)
        × AllZip (IsPartsText names input) (map (parts_of (λ x. (parts x).span)) (repairs_of index sequences)) texts)

    -- the fault names the first token of the sequence for which nothing is printed, or is `Memory`
    abbrev pub IsFaultIn : {B : Type 0} → Vec (ParseRepair X S) B → PpFault S → Type 0
    IsFaultIn sequence = IsPpFault index names (inserted (sequence_parts index (λ x. (parts x).span) sequence.items))

    -- the fault names the first token of the sequences for which nothing is printed, or is `Memory`
    abbrev pub IsPpFaultOf : {B : Type 0} → List (Vec (ParseRepair X S) B) → PpFault S → Type 0
    IsPpFaultOf sequences = IsPpFault index names (tokens_of (λ x. (parts x).span) (repairs_of index sequences))
