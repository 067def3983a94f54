-- A run in progress: what holds of its stacks before and after each of its moves. `index` gives the number of a value of the storage
-- type, `parts` the parts of a lexeme, and `builds` says what the run's builder builds.
use Rattle.std.specs.Prelude.{◌≡◌, ◌≢◌, ◌<◌, ◌≤◌, ℕ, List, Bool, IsTrue, IsFalse, IfSome, Option, length}
use Rattle.lrpar_grammar.specs.Grammar.{end_token}
use Rattle.lrpar_grammar.specs.Sentence.{IsValidList}
use Rattle.lrpar_grammar_places.specs.declared.span.TIdx.{TIdx}
use Rattle.lrpar_table_rows.specs.PlainRows.{plain_action}
use Rattle.lrpar_table_rows.specs.declared.rows.Action.{Action}
use Rattle.lrpar_table_stacks.specs.Path.{NeverSticks}
use Rattle.lrpar_table_stacks.specs.Reduction.{Feeds, top_action}
use Rattle.lrpar_table_check.specs.Checked.{Checked}
use Rattle.lrpar_parse_lexemes.specs.Lexemes.{LexemeParts, start_at}
use Rattle.lrpar_parse_lexemes.specs.Views.{facts_by, known, token_by}
use Rattle.lrpar_parse_repair.specs.PlainSteps.{plain_step, plain_steps}
use Rattle.lrpar_parse_repair.specs.declared.repair_step.RepairStep.{RepairStep}
use Rattle.lrpar_parse_run.specs.Building.{Building}
use Rattle.lrpar_parse_run.specs.Moves.{CanReplay, CanStep, GoesFar, IsReplayed, RiseUpTo, StartsRise}
use Rattle.lrpar_parse_run.specs.RunStack.{IsRunStack, Stacked}
use Rattle.lrpar_parse_run.specs.Stacked.{SettlesTo, Shifts, Sticks}
use Rattle.lrpar_parse_run.specs.declared.run.Run.{Run}

-- runs over the checked table never stick
abbrev pub NeverSticksOver : Checked → Type 0
NeverSticksOver d = NeverSticks d.grammar d.table

module _ {S X B E : Type 0} (builds : B → Building X E) (run : Run S X B) where
  -- the builder can build for the grammar, the stacks are those of a run, and their entries are in order
  pub record IsReady (stack : Stacked E) : Type 0 where
    pub can : (builds run.build.now).can_build run.checked.now.grammar
    pub run_stack : IsRunStack (builds run.build.now).suits run.checked.now.table stack
    pub rises : (start : ℕ) × (builds run.build.now).rises stack.entries start

  -- the stacks settle at the token, and stay those of a run; the state that is then on top has this action
  pub record HasSettled (index : S → ℕ) (token : TIdx S) (old new : Stacked E) (action : Action S) : Type 0 where
    pub run_stack : IsRunStack (builds run.build.now).suits run.checked.now.table new
    pub settles : SettlesTo (builds run.build.now) run.checked.now (index token.0) old new
    pub action_is : plain_action index action ≡ top_action run.checked.now.table (index token.0) new.states

-- the table has entries for the token
abbrev pub IsTokenOf : {S X B : Type 0} → (S → ℕ) → Run S X B → TIdx S → Type 0
IsTokenOf index run token = index token.0 < run.checked.now.table.tokens

module _ {S X B : Type 0} (index : S → ℕ) (parts : X → LexemeParts S) (run : Run S X B) where
  -- the table has entries for the lexeme's token, which isn't the end token
  pub record CanTake (x : X) : Type 0 where
    pub token : token_by index parts x < run.checked.now.table.tokens
    pub inner : token_by index parts x ≢ end_token run.checked.now.grammar

  -- the lexeme's token isn't the end token, and can be fed to the stack
  pub record CanFeed (x : X) (st : List ℕ) : Type 0 where
    pub token : token_by index parts x < end_token run.checked.now.grammar
    pub works : (prods next : List ℕ) × Feeds run.checked.now.grammar run.checked.now.table (token_by index parts x) st prods next

  -- from the stack at the place the step can be taken
  abbrev pub CanStepBy : List X → List ℕ → ℕ → RepairStep S → Type 0
  CanStepBy lexemes st place step = CanStep (facts_by index parts) run.checked.now lexemes st place (plain_step index step)

  -- from the stack at the place the steps can be taken in turn
  abbrev pub CanReplayBy : List X → List ℕ → ℕ → List (RepairStep S) → Type 0
  CanReplayBy lexemes st place steps = CanReplay (facts_by index parts) run.checked.now lexemes st place (plain_steps index steps)

module _ {S X B E : Type 0} (index : S → ℕ) (parts : X → LexemeParts S) (builds : B → Building X E) (run : Run S X B) where
  -- the lexeme is shifted, and the stacks stay those of a run
  pub record IsFed (x : X) (old new : Stacked E) : Type 0 where
    pub run_stack : IsRunStack (builds run.build.now).suits run.checked.now.table new
    pub shifts : Shifts (builds run.build.now) run.checked.now (token_by index parts x) x old new

  -- the lexeme is shifted, or all reductions are made at its token and the top then has no action; the stacks stay those of a run
  pub record IsTaken (x : X) (old new : Stacked E) (shifted : Bool) : Type 0 where
    pub run_stack : IsRunStack (builds run.build.now).suits run.checked.now.table new
    pub shifts : IsTrue shifted → Shifts (builds run.build.now) run.checked.now (token_by index parts x) x old new
    pub sticks : IsFalse shifted → Sticks (builds run.build.now) run.checked.now (token_by index parts x) old new

  module _ (lexemes : List X) where
    -- A run over valid lexemes is at a place with these stacks: the builder can build for the grammar, the stacks are those of a run, and
    -- their entries are in order up to the start of the lexeme at the place.
    pub record IsRunAt (stack : Stacked E) (place : ℕ) : Type 0 where
      pub can : (builds run.build.now).can_build run.checked.now.grammar
      pub valid : IsValidList run.checked.now.grammar (known index parts lexemes)
      pub starts : StartsRise (known index parts lexemes)
      pub run_stack : IsRunStack (builds run.build.now).suits run.checked.now.table stack
      pub rises : RiseUpTo (builds run.build.now).rises stack.entries (start_at (known index parts lexemes) place)
      pub within : place ≤ length lexemes

    -- the run goes as far as it can from the place: it accepts, or is at an error point
    pub record HasGoneFar (old : Stacked E) (place : ℕ) (new : Stacked E) (stop : Option ℕ) : Type 0 where
      pub run_stack : IsRunStack (builds run.build.now).suits run.checked.now.table new
      pub there : IfSome stop (λ next. IsRunAt new next)
      pub far : GoesFar (facts_by index parts) (builds run.build.now) run.checked.now lexemes old place stop new

    -- the steps are replayed from the place on, and the run is at the place after them
    pub record HasReplayed (old : Stacked E) (place : ℕ) (steps : List (RepairStep S)) (new : Stacked E) (next : ℕ) : Type 0 where
      pub there : IsRunAt new next
      pub replayed : IsReplayed (facts_by index parts) (builds run.build.now) run.checked.now lexemes old place (plain_steps index steps) new next
