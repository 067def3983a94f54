-- The search for the nearest place, as contracts see it. `index` is the number that a storage number represents, and `parts` gives the
-- parts of a lexeme.
use Rattle.std.specs.Prelude.{◌≡◌, ◌≤◌, ◌⊎◌, [], ◌∷◌, ℕ, Bool, List, Option, Some, None, Vec, length}
use Rattle.lrpar_grammar_places.specs.declared.span.StIdx.{StIdx}
use Rattle.lrpar_grammar_places.specs.declared.span.TIdx.{TIdx}
use Rattle.lrpar_table_stacks.specs.Expected.{tokens_of}
use Rattle.lrpar_table_stacks.specs.Stack.{IsStack, states_of}
use Rattle.lrpar_parse_lexemes.specs.Lexemes.{LexemeParts}
use Rattle.lrpar_parse_lexemes.specs.Views.{token_by}
use Rattle.lrpar_parse_repair.specs.PlainSteps.{plain_sequences, plain_steps}
use Rattle.lrpar_parse_repair.specs.Sequences.{CanGoOn}
use Rattle.lrpar_parse_repair.specs.declared.repair_step.RepairStep.{RepairStep}
use Rattle.lrpar_parse_completion.specs.Nearest.{GoesOnAt, IsNearest, repair_at}
use Rattle.lrpar_parse_completion.specs.Trying.{AreTried, IsFewest, IsInserted, NeverGoesOn, stacks_of}
use Rattle.lrpar_parse_completion.specs.declared.nearest.Nearest.{Nearest}
use Rattle.lrpar_parse_completion.specs.declared.nearest.Search.{Search}

module _ {S X : Type 0} (index : S → ℕ) where
  -- the tokens of the completion
  abbrev pub tokens_in : Search S X → List ℕ
  tokens_in search = tokens_of index search.tokens.now

  -- the stack is the table's
  abbrev pub HasStack : Search S X → List (StIdx S) → Type 0
  HasStack search stack = IsStack search.point.now.checked.table (states_of index stack)

  -- the stack is that of the error point
  abbrev pub HasPointStack : Search S X → List (StIdx S) → Type 0
  HasPointStack search stack = states_of index stack ≡ search.point.now.stack

  -- the token was fed; or it isn't one that can be inserted
  abbrev pub InsertsToken : {A : Type 0} → Search S X → TIdx S → Vec (StIdx S) A → Vec (StIdx S) A → Bool → Type 0
  InsertsToken search token old new fed =
      IsInserted search.point.now.checked.grammar search.point.now.checked.table (index token.0) (states_of index old.items) (states_of index new.items) fed

  -- the stacks that are tried, which are those after the first tokens
  abbrev pub TriesStacks : {A : Type 0} → Search S X → List (Vec (StIdx S) A) → Type 0
  TriesStacks search stacks = AreTried search.point.now.checked.grammar search.point.now.checked.table search.point.now.stack search.most
      (tokens_in search) (stacks_of index stacks)

  -- the steps of the repair
  abbrev pub HasSteps : {A : Type 0} → Search S X → Nearest → Vec (RepairStep S) A → Type 0
  HasSteps search repair steps =
      plain_steps index steps.items ≡ repair_at (tokens_in search) search.point.now.place repair.place repair.inserted

  module _ (parts : X → LexemeParts S) (search : Search S X) where
    -- a parse can go on from the stack at the place
    abbrev pub GoesOnBy : List (StIdx S) → ℕ → Type 0
    GoesOnBy stack place = CanGoOn (token_by index parts) search.point.now.checked.grammar search.point.now.checked.table
        search.point.now.lexemes search.point.now.shifts (states_of index stack) place

    -- the fewest tokens that are tried at the place and after which a parse can go on there; none, if it can after none of those that are
    -- tried
    abbrev pub FirstAt : ℕ → Option ℕ → Type 0
    FirstAt place None =
        (m : ℕ) → m ≤ length (tokens_in search) → m ≤ search.most → ¬ (GoesOnAt (token_by index parts) search.point.now (tokens_in search) place m)
    FirstAt place (Some m) = IsFewest (token_by index parts) search.point.now (tokens_in search) place m × (m ≤ search.most)

    -- the fewest tokens after which a parse can go on at the end of the lexemes, where all are tried; none, if it can after none of them
    abbrev pub FirstAtEnd : Option ℕ → Type 0
    FirstAtEnd None = NeverGoesOn (token_by index parts) search.point.now (tokens_in search) (length search.point.now.lexemes)
    FirstAtEnd (Some m) = IsFewest (token_by index parts) search.point.now (tokens_in search) (length search.point.now.lexemes) m

    -- the repair at the nearest place; or a parse can't even go on at the end of the lexemes
    abbrev pub FindsNearest : Option Nearest → Type 0
    FindsNearest None = NeverGoesOn (token_by index parts) search.point.now (tokens_in search) (length search.point.now.lexemes)
    FindsNearest (Some repair) = IsNearest (token_by index parts) search.point.now search.most (tokens_in search) repair.place repair.inserted

    -- the answer is the repair at the nearest place; or there is none, and a parse can't even go on at the end of the lexemes
    abbrev pub IsNearestAnswer : {A B : Type 0} → Vec (Vec (RepairStep S) A) B → Type 0
    IsNearestAnswer answer =
        (NeverGoesOn (token_by index parts) search.point.now (tokens_in search) (length search.point.now.lexemes) × (plain_sequences index answer.items ≡ []))
        ⊎ ((repair : Nearest) × IsNearest (token_by index parts) search.point.now search.most (tokens_in search) repair.place repair.inserted
        × (plain_sequences index answer.items ≡ repair_at (tokens_in search) search.point.now.place repair.place repair.inserted ∷ []))
