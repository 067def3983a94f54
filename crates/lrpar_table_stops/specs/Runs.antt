-- Runs over tokens: the stacks that they have, and where they stop.
use Rattle.std.specs.Prelude.{◌≡◌, ◌≢◌, ◌≤◌, ◌⊎◌, ◌++◌, ◌∷◌, [], ℕ, Bool, false, IfOk, List, MatchBool, MatchOption, MatchResult, Option, Result, Some, Vec, slice_get, take}
use Rattle.lrpar_grammar_places.specs.declared.span.StIdx.{StIdx}
use Rattle.lrpar_grammar_places.specs.declared.span.TIdx.{TIdx}
use Rattle.lrpar_grammar.specs.Grammar.{Grammar}
use Rattle.lrpar_table_rows.specs.Table.{Table, Fails}
use Rattle.lrpar_table_stacks.specs.Expected.{tokens_of}
use Rattle.lrpar_table_stacks.specs.Reduction.{Feeds, top_action}
use Rattle.lrpar_table_stacks.specs.Settled.{IsFedBy, IsSettledBy}
use Rattle.lrpar_table_stacks.specs.Stack.{states_of, top_of}
use Rattle.lrpar_table_check.specs.Checked.{Checked}
use Rattle.lrpar_table_check.specs.CheckedStacks.{HasStack}

-- the tokens are fed to the stack `st`, one after the other, which gives the stack `after`
pub data FeedsAll (g : Grammar) (table : Table) (st : List ℕ) : List ℕ → List ℕ → Type 0 where
  Starts : FeedsAll g table st [] st
  Continues : (tokens : List ℕ) (t : ℕ) (prods mid after : List ℕ) → FeedsAll g table st tokens mid → Feeds g table t mid prods after → FeedsAll g table st (tokens ++ t ∷ []) after

-- after these tokens a run from the start has this stack
abbrev pub RunsTo : Checked → List ℕ → List ℕ → Type 0
RunsTo d tokens st = FeedsAll d.grammar d.table (d.table.start ∷ []) tokens st

-- the table doesn't have token t, or the stack can't be fed it
abbrev pub Refuses : Checked → List ℕ → ℕ → Type 0
Refuses d st t = (d.table.tokens ≤ t) ⊎ ((after : List ℕ) × IsFedBy d.grammar d.table d.cap t st false after)

-- the states of code are the start state alone
abbrev pub IsStartStack : {S A : Type 0} → (S → ℕ) → Checked → Vec (StIdx S) A → Type 0
IsStartStack index d stack = states_of index stack.items ≡ d.table.start ∷ []

-- the token of code is fed to the stack of code; or it is refused
abbrev pub MayFeed : {S A : Type 0} → (S → ℕ) → Checked → TIdx S → Vec (StIdx S) A → Vec (StIdx S) A → Bool → Type 0
MayFeed index d token old new fed =
    MatchBool fed ((prods : List ℕ) × Feeds d.grammar d.table (index token.0) (states_of index old.items) prods (states_of index new.items))
    (Refuses d (states_of index old.items) (index token.0))

-- a run from the start is fed this number of the tokens, and refuses the next one
pub record StopsAfter (d : Checked) (tokens : List ℕ) (count : ℕ) : Type 0 where
  pub stack : List ℕ
  pub runs : RunsTo d (take count tokens) stack
  pub token : ℕ
  pub next : slice_get tokens count ≡ Some token
  pub refuses : Refuses d stack token

-- a run over these tokens of code has these states of code as its stack; or it stops after this number of them
abbrev pub IsRunOver : {S A : Type 0} → (S → ℕ) → Checked → List (TIdx S) → Result (Vec (StIdx S) A) ℕ → Type 0
IsRunOver index d tokens run =
    MatchResult run (λ stack. RunsTo d (tokens_of index tokens) (states_of index stack.items)) (StopsAfter d (tokens_of index tokens))

-- if the run doesn't stop, its states form a stack of the checked table
abbrev pub RunHasStack : {S A : Type 0} → (S → ℕ) → Checked → Result (Vec (StIdx S) A) ℕ → Type 0
RunHasStack index d run = IfOk run (HasStack index d)

-- at token t the stack makes all reductions, which gives the stack `after`
abbrev pub SettlesTo : Checked → List ℕ → ℕ → List ℕ → Type 0
SettlesTo d st t after = (count : ℕ) × IsSettledBy d.grammar d.table d.cap t st count after

-- with this stack a run stops at token t in state s: the top after all reductions, which has no action there
pub record StopsWith (d : Checked) (st : List ℕ) (t s : ℕ) : Type 0 where
  pub after : List ℕ
  pub settles : SettlesTo d st t after
  pub top : top_of after ≡ Some s
  pub fails : top_action d.table t after ≡ Fails

-- the table doesn't have token t, or the top has an action at it after all reductions
abbrev pub GoesOn : Checked → List ℕ → ℕ → Type 0
GoesOn d st t = (d.table.tokens ≤ t) ⊎ ((after : List ℕ) × SettlesTo d st t after × (top_action d.table t after ≢ Fails))

-- this is the state in which a run with this stack of code stops at the token of code, and there is none if it goes on
abbrev pub FindsStop : {S : Type 0} → (S → ℕ) → Checked → List (StIdx S) → TIdx S → Option (StIdx S) → Type 0
FindsStop index d stack token found =
    MatchOption found (GoesOn d (states_of index stack) (index token.0)) (λ s. StopsWith d (states_of index stack) (index token.0) (index s.0))
