-- The first printed part of a repair sequence as it is stored, and what is left. `index` gives the number of a value of the storage type,
-- and `parts` the parts of a lexeme.
use denote.Ref.{Bor}
use Rattle.std.specs.Prelude.{◌≡◌, ◌<◌, ◌∷◌, ℕ, List, [], MatchOption, Option, length}
use Rattle.lrpar_grammar_places.specs.Span.{Extent}
use Rattle.lrpar_parse_lexemes.specs.Lexemes.{LexemeParts}
use Rattle.lrpar_parse_lexemes.specs.PrintedParts.{part_of, sequence_parts}
use Rattle.lrpar_parse_lexemes.specs.PrintedSequence.{joined}
use Rattle.lrpar_parse_lexemes.specs.declared.printed_parts.Part.{Part}
use Rattle.lrpar_parse_lexemes.specs.declared.printed_parts.Part.TheVariants.{Delete}
use Rattle.lrpar_parse_lexemes.specs.declared.repairs.ParseRepair.{ParseRepair}

-- fewer repairs are left after the next part
abbrev pub LeavesFewer : {S X : Type 0} → List (ParseRepair X S) → Part S × Bor (List (ParseRepair X S)) → Type 0
LeavesFewer repairs = λ next. length next.1.now < length repairs

module _ {S X : Type 0} (index : S → ℕ) (parts : X → LexemeParts S) where
  -- the first part that is printed for the repairs, and the repairs after it; none if there are no repairs
  abbrev pub FindsPart : List (ParseRepair X S) → Option (Part S × Bor (List (ParseRepair X S))) → Type 0
  FindsPart repairs found =
      MatchOption found (sequence_parts index (λ x. (parts x).span) repairs ≡ [])
      (λ next. sequence_parts index (λ x. (parts x).span) repairs ≡ part_of index next.0 ∷ sequence_parts index (λ x. (parts x).span) next.1.now)

  -- a deletion before the repairs is printed as one with the deletions that touch it: as `whole.0`, and the repairs `whole.1` are left
  abbrev pub JoinsDeletions : Extent → List (ParseRepair X S) → Extent × Bor (List (ParseRepair X S)) → Type 0
  JoinsDeletions first repairs whole =
      joined first (sequence_parts index (λ x. (parts x).span) repairs)
      ≡ part_of index (Delete whole.0) ∷ sequence_parts index (λ x. (parts x).span) whole.1.now
