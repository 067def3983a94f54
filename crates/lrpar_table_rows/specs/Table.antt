-- State tables: the action of each state at each token, and the goto of each state by each rule.
use Rattle.std.specs.Prelude.{◌≡◌, ◌≢◌, ◌<◌, ◌≤◌, ◌+◌, ◌↔◌, ℕ, Bool, true, false, Contains, List, [], length, nat_eq, All, Option, Some, None, count_by, sum_by, unwrap_or, slice_index_or}
use Rattle.std.specs.List.{range_with_len}
use Rattle.std.specs.List.Sorted.{IsStrictlyIncreasing}
use Rattle.std.specs.Map.{keys_of, lookup}
use Rattle.std.specs.Option.{is_some}
use Rattle.lrpar_table_precedence.specs.declared.precedence.Resolution.{Resolution}

-- a parser shifts the token and goes to a state, reduces by a production, accepts, or reports an error
pub data TableAction : Type 0 where
  ShiftTo : (state : ℕ) → TableAction
  ReduceBy : (prod : ℕ) → TableAction
  Accepts : TableAction
  Fails : TableAction

-- a reduce/reduce conflict: at the token, the state can reduce by either of two productions
pub record ReduceReduce : Type 0 where
  pub token : ℕ
  pub first : ℕ
  pub second : ℕ
  pub state : ℕ

-- a shift/reduce conflict: at the token, the state can shift it, or reduce by a production
pub record ShiftReduce : Type 0 where
  pub token : ℕ
  pub prod : ℕ
  pub state : ℕ

-- a shift/reduce conflict that precedences resolve, and how
pub record ResolvedOf : Type 0 where
  pub conflict : ShiftReduce
  pub by : Resolution

-- the conflicts of both kinds
pub record ConflictLists : Type 0 where
  pub reduce_reduce : List ReduceReduce
  pub shift_reduce : List ShiftReduce

-- the start state; the numbers of states, tokens and rules; for each state the entries that are stored: actions, each with
-- its token, and states to go to, each with its rule; the conflicts, and those that precedences resolved
pub record Table : Type 0 where
  pub start : ℕ
  pub states : ℕ
  pub tokens : ℕ
  pub rules : ℕ
  pub actions : List (List (ℕ × TableAction))
  pub gotos : List (List (ℕ × ℕ))
  pub conflicts : Option ConflictLists
  pub resolved : List ResolvedOf

-- the table with other resolved conflicts
abbrev pub with_resolved : Table → List ResolvedOf → Table
with_resolved table resolved = record table { resolved = resolved }

-- the number of states
abbrev pub states_len : Table → ℕ
states_len table = table.states

-- the actions that are stored for state s; out of range, none
abbrev pub actions_at : Table → ℕ → List (ℕ × TableAction)
actions_at table s = slice_index_or table.actions s []

-- the gotos that are stored for state s; out of range, none
abbrev pub gotos_at : Table → ℕ → List (ℕ × ℕ)
gotos_at table s = slice_index_or table.gotos s []

-- the action of state s at token t: the one that is stored, or else an error
unfoldable pub action_of : Table → ℕ → ℕ → TableAction
action_of table s t = unwrap_or (lookup (nat_eq t) (actions_at table s)) Fails

-- the goto of state s by rule r: the one that is stored, if there is one
unfoldable pub goto_of : Table → ℕ → ℕ → Option ℕ
goto_of table s r = lookup (nat_eq r) (gotos_at table s)

-- whether it is an action other than an error
abbrev pub is_no_error : TableAction → Bool
is_no_error (ShiftTo s) = true
is_no_error (ReduceBy p) = true
is_no_error Accepts = true
is_no_error Fails = false

-- the number of tokens at which state s has an action other than an error
abbrev pub actions_in : Table → ℕ → ℕ
actions_in table s = count_by (λ t. is_no_error (action_of table s t)) (range_with_len 0 table.tokens)

-- the number of rules by which state s has a goto
abbrev pub gotos_in : Table → ℕ → ℕ
gotos_in table s = count_by (λ r. is_some (goto_of table s r)) (range_with_len 0 table.rules)

-- the number of entries: the pairs of a state and a token with an action other than an error, and the pairs of a state and a
-- rule with a goto
abbrev pub entries_len : Table → ℕ
entries_len table = sum_by (λ s. actions_in table s + gotos_in table s) (range_with_len 0 table.states)

-- if the action is a shift, its state is below `states`
abbrev pub IsActionWithin : ℕ → TableAction → Type 0
IsActionWithin states (ShiftTo s) = s < states
IsActionWithin states (ReduceBy p) = Unit {0}
IsActionWithin states Accepts = Unit {0}
IsActionWithin states Fails = Unit {0}

-- if there is a goto, its state is below `states`
abbrev pub IsGotoWithin : ℕ → Option ℕ → Type 0
IsGotoWithin states (Some s) = s < states
IsGotoWithin states None = Unit {0}

-- a token below `tokens` with an action other than an error, whose state, if it has one, is below `states`
pub record IsActionEntry (tokens states : ℕ) (entry : ℕ × TableAction) : Type 0 where
  pub token : entry.0 < tokens
  pub stored : entry.1 ≢ Fails
  pub within : IsActionWithin states entry.1

-- a rule below `rules` with a state below `states`
pub record IsGotoEntry (rules states : ℕ) (entry : ℕ × ℕ) : Type 0 where
  pub rule : entry.0 < rules
  pub within : entry.1 < states

-- the entries are in ascending order of their numbers, each number once, and each is a right entry
pub record AreEntries {X : Type 0} (IsEntry : ℕ × X → Type 0) (entries : List (ℕ × X)) : Type 0 where
  pub ascending : IsStrictlyIncreasing (keys_of entries)
  pub each : All IsEntry entries

-- each state has its two lists of entries; the start state is one of the table; the numbers of states, tokens and rules are at
-- most `limit`
abbrev pub HasNumbers : ℕ → Table → Type 0
HasNumbers limit table =
    (length table.actions ≡ table.states) × (length table.gotos ≡ table.states) × (table.start < table.states)
    × (table.states ≤ limit) × (table.tokens ≤ limit) × (table.rules ≤ limit)

-- the actions of each state are right entries, which ascend
abbrev pub HasRightActions : Table → Type 0
HasRightActions table = All (AreEntries (IsActionEntry table.tokens table.states)) table.actions

-- the gotos of each state are right entries, which ascend
abbrev pub HasRightGotos : Table → Type 0
HasRightGotos table = All (AreEntries (IsGotoEntry table.rules table.states)) table.gotos

-- each state has its two lists of entries; every state that they name is one of the table, and so is the start state; the
-- numbers of states, tokens and rules are at most `limit`
pub record IsTable (limit : ℕ) (table : Table) : Type 0 where
  pub actions_len : length table.actions ≡ table.states
  pub gotos_len : length table.gotos ≡ table.states
  pub states_fit : table.states ≤ limit
  pub tokens_fit : table.tokens ≤ limit
  pub rules_fit : table.rules ≤ limit
  pub start_within : table.start < table.states
  pub actions : HasRightActions table
  pub gotos : HasRightGotos table

-- the start state is one of the table, and so is each state that a shift or a goto leads to
pub record IsClosed (table : Table) : Type 0 where
  pub start_within : table.start < states_len table
  pub shifts_within : (s t next : ℕ) → action_of table s t ≡ ShiftTo next → next < states_len table
  pub gotos_within : (s r next : ℕ) → goto_of table s r ≡ Some next → next < states_len table

-- past the last state each action is an error
abbrev pub FailsPastStates : Table → Type 0
FailsPastStates table = (s t : ℕ) → states_len table ≤ s → action_of table s t ≡ Fails

-- past the last state there is no goto
abbrev pub HasNoGotoPastStates : Table → Type 0
HasNoGotoPastStates table = (s r : ℕ) → states_len table ≤ s → goto_of table s r ≡ None

-- past the last token each action is an error
abbrev pub FailsPastTokens : Table → Type 0
FailsPastTokens table = (s t : ℕ) → table.tokens ≤ t → action_of table s t ≡ Fails

-- past the last rule there is no goto
abbrev pub HasNoGotoPastRules : Table → Type 0
HasNoGotoPastRules table = (s r : ℕ) → table.rules ≤ r → goto_of table s r ≡ None

-- what is stored for state s are its actions but errors
abbrev pub StoresActions : Table → ℕ → Type 0
StoresActions table s = (t : ℕ) (action : TableAction) → Contains (actions_at table s) (t, action) ↔ ((action_of table s t ≡ action) × (action ≢ Fails))

-- what is stored for state s are its gotos
abbrev pub StoresGotos : Table → ℕ → Type 0
StoresGotos table s = (r next : ℕ) → Contains (gotos_at table s) (r, next) ↔ (goto_of table s r ≡ Some next)

-- the tokens of the actions that are stored for state s ascend, each once
abbrev pub ActionsAscend : Table → ℕ → Type 0
ActionsAscend table s = IsStrictlyIncreasing (keys_of (actions_at table s))

-- the rules of the gotos that are stored for state s ascend, each once
abbrev pub GotosAscend : Table → ℕ → Type 0
GotosAscend table s = IsStrictlyIncreasing (keys_of (gotos_at table s))

-- each action that is stored for state s is a right entry
abbrev pub AreActionsWithin : Table → ℕ → Type 0
AreActionsWithin table s = All (IsActionEntry table.tokens (states_len table)) (actions_at table s)

-- each goto that is stored for state s is a right entry
abbrev pub AreGotosWithin : Table → ℕ → Type 0
AreGotosWithin table s = All (IsGotoEntry table.rules (states_len table)) (gotos_at table s)
