-- An error point of a run: the sequences that are listed there, its error, and where the run goes on.
use Rattle.std.specs.Prelude.{◌≡◌, ℕ, List, [], ◌∷◌, ◌++◌, Option, Some, None}
use Rattle.lrpar_parse_errors.specs.declared.errors.LexParseError.{LexParseError}
use Rattle.lrpar_parse_run.specs.Building.{Building}
use Rattle.lrpar_parse_run.specs.Moves.{IsReplayed}
use Rattle.lrpar_parse_run.specs.RepairAnswer.{IsRepairErrorOf}
use Rattle.lrpar_parse_run.specs.RepairRun.{IsListedAt}
use Rattle.lrpar_table_stacks.specs.Run.{Stop}
use Rattle.lrpar_parse_repair.specs.Sequences.{PlainStep}
use Rattle.lrpar_parse_run.specs.RunStack.{Stacked}
use Rattle.lrpar_parse_run.specs.Subject.{Subject}

-- at the error point these sequences are listed: those that work there, of an answer that the recoverer allows
abbrev pub IsListedBy : {X : Type 0} → Subject X → List X → Stop → List (List PlainStep) → Type 0
IsListedBy about lexemes stop listed = IsListedAt about.facts about.allows about.shifts about.checked.grammar about.checked.table lexemes stop listed

-- the error of the error point is added; it lists these sequences, which are those that work there, of an answer that the recoverer
-- allows
pub record IsRecorded {X S L C : Type 0} (about : Subject X) (lexemes : List X)
    (stop : Stop) (errors more : List (LexParseError S L X C)) (listed : List (List PlainStep)) : Type 0 where
  pub is : IsListedBy about lexemes stop listed
  pub error : LexParseError S L X C
  pub error_is : IsRepairErrorOf about lexemes (record { stop = stop; listed = listed }) error
  pub added : more ≡ errors ++ error ∷ []

module _ {X E : Type 0} (about : Subject X) (builds : Building X E) (lexemes : List X) where
  -- if no sequence is listed, the run ends; otherwise the first one is replayed, and the run goes on from the result
  abbrev pub GoesOnBy : List (List PlainStep) → Stacked E → ℕ → Stacked E → Option ℕ → Type 0
  GoesOnBy [] old place new next = next ≡ None
  GoesOnBy (first ∷ listed) old place new None = ⊥
  GoesOnBy (first ∷ listed) old place new (Some m) = IsReplayed about.facts builds about.checked lexemes old place first new m

  -- at an error point with these stacks at a place: its error is added, and the run ends there, or goes on with the first listed
  -- sequence
  pub record IsRecovered {S L C : Type 0} (old : Stacked E) (place : ℕ) (errors : List (LexParseError S L X C)) (new : Stacked E) (more : List (LexParseError S L X C)) (next : Option ℕ) : Type 0 where
    pub listed : List (List PlainStep)
    pub recorded : IsRecorded about lexemes (record { stack = old.states; place = place }) errors more listed
    pub goes_on : GoesOnBy listed old place new next
