-- What the calls of a checked table do to stacks: to lists of states, to overlays, and to stacks of any kind.
use Rattle.std.specs.Prelude.{◌≡◌, ◌<◌, ◌↔◌, ◌⊎◌, ℕ, Bool, IfOk, IsTrue, List, OnErr, Result, Vec, vec_capacity}
use Rattle.lrpar_grammar_places.specs.declared.span.StIdx.{StIdx}
use Rattle.lrpar_grammar_places.specs.declared.span.TIdx.{TIdx}
use Rattle.lrpar_grammar.specs.Grammar.{Grammar}
use Rattle.lrpar_table_rows.specs.PlainRows.{plain_action}
use Rattle.lrpar_table_rows.specs.Table.{Table}
use Rattle.lrpar_table_stacks.specs.Expected.{AreExpected, IsExpected, IsListShortOfMemory, IsTriedShortOfMemory, tokens_of}
use Rattle.lrpar_table_stacks.specs.Overlay.{IsFedOver, IsSettledOver, IsShiftShortOfMemoryOver, IsShortOfMemoryOver, Overlaid, overlaid}
use Rattle.lrpar_table_stacks.specs.Reduction.{top_action}
use Rattle.lrpar_table_stacks.specs.Settled.{IsFedBy, IsSettledBy, IsShiftShortOfMemory, IsShortOfMemory}
use Rattle.lrpar_table_stacks.specs.Stack.{IsStack, states_of}
use Rattle.lrpar_table_stacks.specs.StackReduction.{IsStackFedBy, IsStackSettledBy, IsStackShiftShortOfMemory, IsStackShortOfMemory}
use Rattle.lrpar_table_stacks.specs.declared.state_stack.Settled.{Settled}
use Rattle.lrpar_table_stacks.specs.declared.state_stack.StateStack as stacks
use Rattle.lrpar_table_check.specs.Checked.{Checked}

-- these states are a stack of the checked table
abbrev pub IsStackOf : Checked → List ℕ → Type 0
IsStackOf d st = IsStack d.table st

-- these states of code, bottom first, form a stack of the checked table
abbrev pub FormStack : {S : Type 0} → (S → ℕ) → Checked → List (StIdx S) → Type 0
FormStack index d states = IsStackOf d (states_of index states)

-- the list has the states of a stack of the checked table, bottom first
abbrev pub HasStack : {S A : Type 0} → (S → ℕ) → Checked → Vec (StIdx S) A → Type 0
HasStack index d states = FormStack index d states.items

-- the token of code is one of the checked table
abbrev pub IsTokenOf : {S : Type 0} → (S → ℕ) → Checked → TIdx S → Type 0
IsTokenOf index d t = index t.0 < d.table.tokens

-- the rest of a stack, beside its states, suits the checked table and its grammar
abbrev pub SuitsTable : {X : Type 0} → (Grammar → Table → X → Type 0) → Checked → X → Type 0
SuitsTable suits d stack = suits d.grammar d.table stack

-- lists of states, bottom first
module _ {S A : Type 0} (index : S → ℕ) (d : Checked) (t : TIdx S) (old new : Vec (StIdx S) A) where
  -- at the token the list makes all reductions, of this number
  abbrev pub IsListSettled : ℕ → Type 0
  IsListSettled count = IsSettledBy d.grammar d.table d.cap (index t.0) (states_of index old.items) count (states_of index new.items)

  -- at the token the list makes all reductions, and then shifts the token; or its top doesn't shift it
  abbrev pub IsListFed : Bool → Type 0
  IsListFed shifted = IsFedBy d.grammar d.table d.cap (index t.0) (states_of index old.items) shifted (states_of index new.items)

  -- if an allocation failed, then at the token the list made the first reductions, and is full for the next one
  abbrev pub FailsToSettleList : {T E : Type 0} → Result T E → Type 0
  FailsToSettleList result =
      OnErr result (IsShortOfMemory d.grammar d.table (index t.0) (states_of index old.items) (vec_capacity old) (states_of index new.items) (vec_capacity new))

  -- if an allocation failed, then the list is full for a reduction at the token, or for the shift after all reductions
  abbrev pub FailsToFeedList : {T E : Type 0} → Result T E → Type 0
  FailsToFeedList result =
      OnErr result
      (IsShortOfMemory d.grammar d.table (index t.0) (states_of index old.items) (vec_capacity old) (states_of index new.items) (vec_capacity new)
      ⊎ IsShiftShortOfMemory d.grammar d.table d.cap (index t.0) (states_of index old.items) (vec_capacity old) (states_of index new.items) (vec_capacity new))

-- overlays
module _ {S : Type 0} (index : S → ℕ) (d : Checked) (t : TIdx S) (old new : Overlaid) where
  -- at the token the overlay makes all reductions, of this number
  abbrev pub IsOverlaySettled : ℕ → Type 0
  IsOverlaySettled count = IsSettledOver d.grammar d.table d.cap (index t.0) old count new

  -- at the token the overlay makes all reductions, and then shifts the token; or its top doesn't shift it
  abbrev pub IsOverlayFed : Bool → Type 0
  IsOverlayFed shifted = IsFedOver d.grammar d.table d.cap (index t.0) old shifted new

  -- if an allocation failed, then at the token the overlay made the first reductions, and its tail is full for the next one
  abbrev pub FailsToSettleOver : {T E : Type 0} → Result T E → Type 0
  FailsToSettleOver result = OnErr result (IsShortOfMemoryOver d.grammar d.table (index t.0) old new)

  -- if an allocation failed, then the overlay's tail is full for a reduction at the token, or for the shift after all reductions
  abbrev pub FailsToFeedOver : {T E : Type 0} → Result T E → Type 0
  FailsToFeedOver result =
      OnErr result
      (IsShortOfMemoryOver d.grammar d.table (index t.0) old new ⊎ IsShiftShortOfMemoryOver d.grammar d.table d.cap (index t.0) old new)

-- stacks of any kind, as the trait of the kind describes them
module _ {X S : Type 0} (index : S → ℕ) (kind : stacks.Ghosts X S) (d : Checked) (t : TIdx S) (old new : X) where
  -- if nothing failed, then at the token the stack made all reductions, of the number in the result
  abbrev pub SettlesStack : {E : Type 0} → Result (Settled S) E → Type 0
  SettlesStack result =
      IfOk result (λ done. IsStackSettledBy kind.states kind.reduces d.grammar d.table d.cap (index t.0) old done.reductions new)

  -- if an allocation failed, then at the token the stack made the first reductions; the failed one was for the next
  abbrev pub FailsToSettle : {T E : Type 0} → Result T E → Type 0
  FailsToSettle result = OnErr result (IsStackShortOfMemory kind.states kind.reduces kind.fails d.grammar d.table (index t.0) old new)

-- stacks onto which shifts push: the relations `reduces` and `shifts` say what a reduction and a shift do to the rest
module _ {X S : Type 0} (index : S → ℕ) (states : X → List ℕ) (reduces : X → ℕ → ℕ → ℕ → X → Type 0) where
  -- if nothing failed, then at the token the stack made all reductions, and then shifted the token; or its top doesn't shift it
  abbrev pub FeedsStack : {E : Type 0} → (X → X → Type 0) → Checked → TIdx S → X → X → Result Bool E → Type 0
  FeedsStack shifts d t old new result =
      IfOk result (λ shifted. IsStackFedBy states reduces shifts d.grammar d.table d.cap (index t.0) old shifted new)

  -- if an allocation failed, then it was for a reduction at the token, or for the shift after all reductions
  abbrev pub FailsToFeed : {T E : Type 0} → (X → ℕ → X → Type 0) → (X → X → Type 0) → Checked → TIdx S → X → X → Result T E → Type 0
  FailsToFeed fails shift_fails d t old new result =
      OnErr result
      (IsStackShortOfMemory states reduces fails d.grammar d.table (index t.0) old new
      ⊎ IsStackShiftShortOfMemory states reduces shift_fails d.grammar d.table d.cap (index t.0) old new)

-- the action in `done` is that of the top of these states at the token
abbrev pub IsTopAction : {S : Type 0} → (S → ℕ) → Table → TIdx S → List ℕ → Settled S → Type 0
IsTopAction index table t st done = plain_action index done.action ≡ top_action table (index t.0) st

-- these are the tokens that may come next at the stack of these states, ascending
abbrev pub AreExpectedOn : {S A : Type 0} → (S → ℕ) → Checked → List (StIdx S) → Vec (TIdx S) A → Type 0
AreExpectedOn index d states tokens = AreExpected d.grammar d.table (states_of index states) (tokens_of index tokens.items)

-- these are the tokens that may come next at the stack that the overlay represents, ascending
abbrev pub AreExpectedOver : {S A : Type 0} → (S → ℕ) → Checked → Overlaid → Vec (TIdx S) A → Type 0
AreExpectedOver index d overlay tokens = AreExpected d.grammar d.table (overlaid overlay) (tokens_of index tokens.items)

-- an allocation failed while the tokens were listed that may come next at the stack of these states
abbrev pub FailsToList : {S : Type 0} → (S → ℕ) → Checked → List (StIdx S) → Type 0
FailsToList index d states = IsListShortOfMemory d.grammar d.table (states_of index states)

-- an allocation failed while the tokens were listed that may come next at the stack that the overlay represents
abbrev pub FailsToListOver : Checked → Overlaid → Type 0
FailsToListOver d overlay = IsListShortOfMemory d.grammar d.table (overlaid overlay)

-- the answer is whether the token may come next at the stack
abbrev pub IsWhetherExpected : {S : Type 0} → (S → ℕ) → Checked → List ℕ → TIdx S → Bool → Type 0
IsWhetherExpected index d st t answer = IsTrue answer ↔ IsExpected d.grammar d.table st (index t.0)

-- the answer is whether the token may come next at the stack of these states
abbrev pub IsWhetherExpectedOn : {S : Type 0} → (S → ℕ) → Checked → List (StIdx S) → TIdx S → Bool → Type 0
IsWhetherExpectedOn index d states t answer = IsWhetherExpected index d (states_of index states) t answer

-- an allocation failed for a reduction at the token over the stack of these states
abbrev pub FailsToTry : {S : Type 0} → (S → ℕ) → Checked → List (StIdx S) → TIdx S → Type 0
FailsToTry index d states t = IsTriedShortOfMemory d.grammar d.table (index t.0) (states_of index states)
