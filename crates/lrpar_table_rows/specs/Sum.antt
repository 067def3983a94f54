-- The table of the grammar *sum*, an example for which the definitions are computed: tokens '+' 0, 'ID' 1, end 2; rules ^ 0,
-- E 1, T 2; productions 0 `E: T '+' E`, 1 `E: T`, 2 `T: 'ID'`, 3 `^: E`.
use Rattle.std.specs.Prelude.{◌≡◌, ◌+◌, ◌++◌, ℕ, List, [], ◌∷◌, Option, Some, None, slice_set}
use Rattle.lrpar_table_rows.specs.Graph.{Graph, ItemOf, item_at, items_of}
use Rattle.lrpar_table_rows.specs.Rows.{Rows}
use Rattle.lrpar_table_rows.specs.Table.{Table, TableAction, ShiftTo, ReduceBy, Accepts, Fails, action_of, goto_of}

-- the small table; its six states, by their kernel items: 0 `^: . E`, 1 `^: E .`, 2 `E: T . '+' E` and `E: T .`, 3 `T: 'ID' .`, 4 `E: T
-- '+' . E`, 5 `E: T '+' E .`
abbrev pub sum_table : Table
sum_table = record {
  start = 0;
  states = 6;
  tokens = 3;
  rules = 3;
  actions =
      ((1, ShiftTo 3) ∷ []) ∷ ((2, Accepts) ∷ []) ∷ ((0, ShiftTo 4) ∷ (2, ReduceBy 1) ∷ []) ∷ ((0, ReduceBy 2) ∷ (2, ReduceBy 2) ∷ [])
      ∷ ((1, ShiftTo 3) ∷ []) ∷ ((2, ReduceBy 0) ∷ []) ∷ [];
  gotos = ((1, 1) ∷ (2, 2) ∷ []) ∷ [] ∷ [] ∷ [] ∷ ((1, 5) ∷ (2, 2) ∷ []) ∷ [] ∷ [];
  conflicts = None;
  resolved = [];
}

-- actions of the small table, one of each kind, and those at a state and at a token past the last one
pub record HasSumActions (table : Table) : Type 0 where
  pub shifts : action_of table 4 1 ≡ ShiftTo 3
  pub reduces : action_of table 2 2 ≡ ReduceBy 1
  pub accepts : action_of table 1 2 ≡ Accepts
  pub fails : action_of table 0 0 ≡ Fails
  pub no_state : action_of table 6 0 ≡ Fails
  pub no_token : action_of table 3 3 ≡ Fails

-- a goto of the small table, a rule by which there is none, and a rule past the last one
pub record HasSumGotos (table : Table) : Type 0 where
  pub goes : goto_of table 4 1 ≡ Some 5
  pub goes_nowhere : goto_of table 4 0 ≡ None
  pub no_rule : goto_of table 4 3 ≡ None

-- a row of three actions: at '+', at 'ID' and at the end token
abbrev pub three_actions : TableAction → TableAction → TableAction → List TableAction
three_actions plus id end = plus ∷ id ∷ end ∷ []

-- a row of three states to go to: by ^, by E and by T
abbrev pub three_gotos : Option ℕ → Option ℕ → Option ℕ → List (Option ℕ)
three_gotos added e t = added ∷ e ∷ t ∷ []

-- the full rows of the small table
abbrev pub sum_rows : Rows
sum_rows = record {
  start = 0;
  tokens = 3;
  rules = 3;
  actions =
      three_actions Fails (ShiftTo 3) Fails ∷ three_actions Fails Fails Accepts ∷ three_actions (ShiftTo 4) Fails (ReduceBy 1)
      ∷ three_actions (ReduceBy 2) Fails (ReduceBy 2) ∷ three_actions Fails (ShiftTo 3) Fails ∷ three_actions Fails Fails (ReduceBy 0) ∷ [];
  gotos =
      three_gotos None (Some 1) (Some 2) ∷ three_gotos None None None ∷ three_gotos None None None ∷ three_gotos None None None
      ∷ three_gotos None (Some 5) (Some 2) ∷ three_gotos None None None ∷ [];
  conflicts = None;
}

-- the items of these states: 0 `^: . E {end}`, `E: . T '+' E {end}`, `E: . T {end}`, `T: . 'ID' {'+', end}`;
-- 1 `^: E . {end}`; 2 `E: T . '+' E {end}`, `E: T . {end}`; 3 `T: 'ID' . {'+', end}`; 4 `E: T '+' . E {end}`,
-- `E: . T '+' E {end}`, `E: . T {end}`, `T: . 'ID' {'+', end}`; 5 `E: T '+' E . {end}`
abbrev pub sum_graph : Graph
sum_graph =
    (item_at 3 0 2 ∷ item_at 0 0 2 ∷ item_at 1 0 2 ∷ item_at 2 0 0 ∷ item_at 2 0 2 ∷ [])
    ∷ (item_at 3 1 2 ∷ [])
    ∷ (item_at 0 1 2 ∷ item_at 1 1 2 ∷ [])
    ∷ (item_at 2 1 0 ∷ item_at 2 1 2 ∷ [])
    ∷ (item_at 0 2 2 ∷ item_at 0 0 2 ∷ item_at 1 0 2 ∷ item_at 2 0 0 ∷ item_at 2 0 2 ∷ [])
    ∷ (item_at 0 3 2 ∷ []) ∷ []

-- the small table with other actions in state s
abbrev pub with_actions : ℕ → List (ℕ × TableAction) → Table
with_actions s actions = record sum_table { actions = slice_set sum_table.actions s actions }

-- the small table with other gotos in state s
abbrev pub with_gotos : ℕ → List (ℕ × ℕ) → Table
with_gotos s gotos = record sum_table { gotos = slice_set sum_table.gotos s gotos }

-- a table with one more state, which has no entries
abbrev pub with_bare_state : Table → Table
with_bare_state table = record table { states = table.states + 1; actions = table.actions ++ [] ∷ []; gotos = table.gotos ++ [] ∷ [] }

-- the items of the six states, and of one more, which has no items
abbrev pub with_bare_items : Graph
with_bare_items = sum_graph ++ [] ∷ []

-- the items of the six states with one more item in state s
abbrev pub with_item : ℕ → ItemOf → Graph
with_item s item = slice_set sum_graph s (items_of sum_graph s ++ item ∷ [])
