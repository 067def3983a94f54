-- A whole run, as contracts see it. `index` gives the number of a value of the storage type, `parts` the parts of a lexeme, `allows` says
-- which answers the recoverer may give, and `builds` what the builder builds.
use Rattle.std.specs.Prelude.{◌≡◌, ◌<◌, ◌≤◌, ℕ, List, IfSome, Option, Vec, length}
use Rattle.lrpar_grammar.specs.Sentence.{IsValidList}
use Rattle.lrpar_table_rows.specs.Table.{Fails}
use Rattle.lrpar_table_stacks.specs.Reduction.{top_action}
use Rattle.lrpar_table_stacks.specs.Run.{stop_at, token_at}
use Rattle.lrpar_table_stacks.specs.Stack.{IsStack}
use Rattle.lrpar_parse_errors.specs.declared.errors.LexParseError.{LexParseError}
use Rattle.lrpar_parse_lexemes.specs.Lexemes.{LexemeParts}
use Rattle.lrpar_parse_lexemes.specs.Views.{facts_by, known, token_by}
use Rattle.lrpar_parse_repair.specs.Asked.{Asked, allowed_at}
use Rattle.lrpar_parse_repair.specs.PlainSteps.{plain_sequences}
use Rattle.lrpar_parse_repair.specs.Sequences.{PlainStep}
use Rattle.lrpar_parse_repair.specs.declared.repair_step.RepairStep.{RepairStep}
use Rattle.lrpar_parse_run.specs.Building.{Building}
use Rattle.lrpar_parse_run.specs.Recovering.{IsListedBy, IsRecorded, IsRecovered}
use Rattle.lrpar_parse_run.specs.RepairAnswer.{IsRepairErrorOf}
use Rattle.lrpar_parse_run.specs.Running.{IsRunAt}
use Rattle.lrpar_parse_run.specs.RunStack.{IsRunStack, Stacked}
use Rattle.lrpar_parse_run.specs.Subject.{Subject}
use Rattle.lrpar_parse_run.specs.TreeAnswer.{IsTreeAnswer}
use Rattle.lrpar_parse_run.specs.declared.whole_run.WholeRun.{WholeRun}

-- what the whole run is about
abbrev pub subject : {S L B R X C : Type 0} → (S → ℕ) → (X → LexemeParts S) → (R → Asked X → List (List PlainStep) → Type 0) → WholeRun S L B R X C → Subject X
subject index parts allows whole_run =
    record {
      checked = whole_run.run.checked.now;
      facts = facts_by index parts;
      allows = allowed_at (allows whole_run.recoverer.now) whole_run.run.checked.now whole_run.shifts;
      shifts = whole_run.shifts;
    }

-- the stack of a checked table is at an error point over valid lexemes: at the token of this place its top has no action; and some lexeme
-- must follow a repair
pub record IsStopOf {S L B R X C : Type 0} (index : S → ℕ) (parts : X → LexemeParts S) (of : WholeRun S L B R X C) (st : List ℕ) (place : ℕ) : Type 0 where
  pub valid : IsValidList of.run.checked.now.grammar (known index parts of.lexemes.now)
  pub shifts : 0 < of.shifts
  pub stack : IsStack of.run.checked.now.table st
  pub fails : top_action of.run.checked.now.table (token_at (token_by index parts) of.run.checked.now.grammar of.lexemes.now place) st ≡ Fails
  pub within : place ≤ length of.lexemes.now

module _ {S L B R X C E : Type 0} (index : S → ℕ) (parts : X → LexemeParts S) (builds : B → Building X E) (of : WholeRun S L B R X C) where
  -- the builder can build for the grammar, the lexemes are valid, and some lexeme must follow a repair
  pub record CanBegin : Type 0 where
    pub can : (builds of.run.build.now).can_build of.run.checked.now.grammar
    pub valid : IsValidList of.run.checked.now.grammar (known index parts of.lexemes.now)
    pub shifts : 0 < of.shifts

  -- the run is at an error point: it is at this place with these stacks, whose top has no action at the token there; and some lexeme must
  -- follow a repair
  pub record HasStopped (stack : Stacked E) (place : ℕ) : Type 0 where
    pub there : IsRunAt index parts builds of.run of.lexemes.now stack place
    pub shifts : 0 < of.shifts
    pub fails : top_action of.run.checked.now.table (token_at (token_by index parts) of.run.checked.now.grammar of.lexemes.now place) stack.states ≡ Fails

module _ {S L B R X C : Type 0} (index : S → ℕ) (parts : X → LexemeParts S) (allows : R → Asked X → List (List PlainStep) → Type 0) where
  -- what is listed at an error point with this stack at a place
  abbrev pub ListsAt : {A Z : Type 0} → WholeRun S L B R X C → List ℕ → ℕ → Vec (Vec (RepairStep S) A) Z → Type 0
  ListsAt of st place listed = IsListedBy (subject index parts allows of) of.lexemes.now (stop_at st place) (plain_sequences index listed.items)

  -- the error of an error point with this stack at a place, at which these sequences are listed
  abbrev pub IsErrorAt : {A : Type 0} → WholeRun S L B R X C → List ℕ → ℕ → List (Vec (RepairStep S) A) → LexParseError S L X C → Type 0
  IsErrorAt of st place listed error =
      IsRepairErrorOf (subject index parts allows of) of.lexemes.now (record { stop = stop_at st place; listed = plain_sequences index listed }) error

  -- the error of an error point with this stack at a place, at which these sequences are listed, is added
  abbrev pub RecordsAt : {A Z : Type 0} → WholeRun S L B R X C → List ℕ → ℕ → List (LexParseError S L X C) → List (LexParseError S L X C) → Vec (Vec (RepairStep S) A) Z → Type 0
  RecordsAt of st place errors more listed =
      IsRecorded (subject index parts allows of) of.lexemes.now (stop_at st place) errors more (plain_sequences index listed.items)

  module _ {E : Type 0} (builds : B → Building X E) (of : WholeRun S L B R X C) where
    -- the error of an error point is added, and the run ends there, or goes on from another place
    pub record Resumes (old : Stacked E) (stop : ℕ) (errors : List (LexParseError S L X C)) (new : Stacked E) (more : List (LexParseError S L X C)) (next : Option ℕ) : Type 0 where
      pub run_stack : IsRunStack (builds of.run.build.now).suits of.run.checked.now.table new
      pub there : IfSome next (λ place. IsRunAt index parts builds of.run of.lexemes.now new place)
      pub recovered : IsRecovered (subject index parts allows of) (builds of.run.build.now) of.lexemes.now old stop errors new more next

    -- the answer of the whole run
    abbrev pub IsAnswerOf : {Z : Type 0} → Option E × Vec (LexParseError S L X C) Z → Type 0
    IsAnswerOf answer = IsTreeAnswer (subject index parts allows of) (builds of.run.build.now) of.lexemes.now answer
