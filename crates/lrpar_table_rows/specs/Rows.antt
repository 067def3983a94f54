-- Full rows, from which a table is made: an action for each token, and an optional state for each rule.
use Rattle.std.specs.Prelude.{◌≡◌, ◌<◌, ◌≤◌, ℕ, List, [], length, map, filter_map, option_map, All, Option, Some, None}
use Rattle.std.specs.List.{enumerate_from}
use Rattle.lrpar_table_rows.specs.Table.{ConflictLists, IsActionWithin, IsGotoWithin, Table, TableAction, ShiftTo, ReduceBy, Accepts, Fails}

-- the start state; the numbers of tokens and rules; for each state an action for each token, and an optional state for
-- each rule
pub record Rows : Type 0 where
  pub start : ℕ
  pub tokens : ℕ
  pub rules : ℕ
  pub actions : List (List TableAction)
  pub gotos : List (List (Option ℕ))
  pub conflicts : Option ConflictLists

-- an action for each token, with states in range
abbrev pub IsActionRow : ℕ → ℕ → List TableAction → Type 0
IsActionRow tokens states row = (length row ≡ tokens) × All (IsActionWithin states) row

-- an optional state for each rule, in range
abbrev pub IsGotoRow : ℕ → ℕ → List (Option ℕ) → Type 0
IsGotoRow rules states row = (length row ≡ rules) × All (IsGotoWithin states) row

-- each state has its two rows; the start state is one of the table; the numbers of states, tokens and rules are at most `limit`
abbrev pub HaveNumbers : ℕ → Rows → Type 0
HaveNumbers limit rows =
    (length rows.gotos ≡ length rows.actions) × (rows.start < length rows.actions) × (length rows.actions ≤ limit)
    × (rows.tokens ≤ limit) × (rows.rules ≤ limit)

-- each row of actions has an action for each token, with states in range
abbrev pub HaveActionRows : Rows → Type 0
HaveActionRows rows = All (IsActionRow rows.tokens (length rows.actions)) rows.actions

-- each row of gotos has an optional state for each rule, in range
abbrev pub HaveGotoRows : Rows → Type 0
HaveGotoRows rows = All (IsGotoRow rows.rules (length rows.actions)) rows.gotos

-- each state has its two rows; every state that they name is one of the table, and so is the start state; the numbers of
-- states, tokens and rules are at most `limit`
pub record AreRows (limit : ℕ) (rows : Rows) : Type 0 where
  pub gotos_len : length rows.gotos ≡ length rows.actions
  pub states_fit : length rows.actions ≤ limit
  pub tokens_fit : rows.tokens ≤ limit
  pub rules_fit : rows.rules ≤ limit
  pub start_within : rows.start < length rows.actions
  pub action_rows : HaveActionRows rows
  pub goto_rows : HaveGotoRows rows

-- the entry that is kept for an element, with the element's number; or none
abbrev pub kept_entry : {A B : Type 0} → (A → Option B) → ℕ × A → Option (ℕ × B)
kept_entry keep element = option_map (λ kept. (element.0, kept)) (keep element.1)

-- the entries that are kept for the elements of a row, each with its number
abbrev pub row_entries : {A B : Type 0} → (A → Option B) → List A → List (ℕ × B)
row_entries keep row = filter_map (kept_entry keep) (enumerate_from 0 row)

-- an action, unless it is an error
abbrev pub unless_error : TableAction → Option TableAction
unless_error (ShiftTo s) = Some (ShiftTo s)
unless_error (ReduceBy p) = Some (ReduceBy p)
unless_error Accepts = Some Accepts
unless_error Fails = None

-- the actions of a row but the errors, each with its token
abbrev pub row_actions : List TableAction → List (ℕ × TableAction)
row_actions row = row_entries unless_error row

-- the states of a row, each with its rule
abbrev pub row_gotos : List (Option ℕ) → List (ℕ × ℕ)
row_gotos row = row_entries (λ goto. goto) row

-- the table of the rows: it stores their entries
abbrev pub table_of : Rows → Table
table_of rows = record {
  start = rows.start;
  states = length rows.actions;
  tokens = rows.tokens;
  rules = rows.rules;
  actions = map row_actions rows.actions;
  gotos = map row_gotos rows.gotos;
  conflicts = rows.conflicts;
  resolved = [];
}
