-- States, their rows and their conflicts, as the code stores them. `index` is the number that a storage number represents.
use Rattle.std.specs.Prelude.{◌≡◌, ◌<◌, ◌≤◌, ◌↔◌, ℕ, List, [], Option, length, map, Vec}
use Rattle.lrpar_grammar_places.specs.declared.span.PIdx.{PIdx}
use Rattle.lrpar_grammar_places.specs.declared.span.RIdx.{RIdx}
use Rattle.lrpar_grammar_places.specs.declared.span.StIdx.{StIdx}
use Rattle.lrpar_grammar_places.specs.declared.span.TIdx.{TIdx}
use Rattle.lrpar_grammar.specs.Grammar.{Grammar, tokens_len}
use Rattle.lrpar_table_precedence.specs.Precedence.{PrecedenceLists}
use Rattle.lrpar_table_rows.specs.Graph.{Graph, HasItem}
use Rattle.lrpar_table_rows.specs.PlainConflicts.{reduce_reduce_of, shift_reduce_of}
use Rattle.lrpar_table_rows.specs.PlainRows.{action_entry, goto_entry, sparse_table_of}
use Rattle.lrpar_table_rows.specs.Table.{ConflictLists, IsTable, ResolvedOf, Table}
use Rattle.lrpar_table_rows.specs.declared.rows.Action.{Action}
use Rattle.lrpar_table_rows.specs.declared.rows.SparseRows.{SparseRows}
use Rattle.lrpar_table_items.specs.Resolution.{IsAcceptReduce}
use Rattle.lrpar_table_items.specs.StateRows.{IsRefusalOf, IsRefusedState, action_rows, conflicts_of_states, goto_rows, item_rows, reduce_conflicts_below, resolved_of_states, shift_conflicts_below, table_of_states, table_with, unless_empty}
use Rattle.lrpar_table_items.specs.States.{AreStateRows, AreStates, StateOf, state_at, state_of}
use Rattle.lrpar_table_items.specs.StoredRows.{AddsConflicts}
use Rattle.lrpar_table_items.specs.declared.fault.BuildFault.{BuildFault}
use Rattle.lrpar_table_items.specs.declared.item_set.State.{State}
use Rattle.lrpar_table_items.specs.declared.resolution.FoundConflicts.{FoundConflicts}
use Rattle.lrpar_table_build.specs.Built.{HaveStates}

module _ {S : Type 0} (index : S → ℕ) where
  -- the states, by the numbers of their indexes
  abbrev pub states_of : List (State S) → List StateOf
  states_of states = map (state_of index) states

  -- the item sets of the states are the canonical collection of the grammar
  abbrev pub AreStatesOf : Grammar → List (State S) → Type 0
  AreStatesOf g states = AreStates g (states_of states)

  -- the states have what the rows of a table need
  abbrev pub HaveRows : Grammar → List (State S) → Type 0
  HaveRows g states = AreStateRows g (states_of states)

  -- the graph has the items of the states
  abbrev pub HasItemsOf : Grammar → List (State S) → Graph → Type 0
  HasItemsOf g states graph = (s p k t : ℕ) → HasItem graph s p k t ↔ HasItem (item_rows g (states_of states)) s p k t

  -- this is the table of the states by the precedences
  abbrev pub IsTableOf : PrecedenceLists → Grammar → List (State S) → Table → Type 0
  IsTableOf lists g states table = table ≡ table_of_states lists g (states_of states)

  -- none of the states has an accept/reduce conflict
  abbrev pub HaveNoAcceptReduce : Grammar → List (State S) → Type 0
  HaveNoAcceptReduce g states =
      (s t : ℕ) → s < length states → t < tokens_len g
      → ¬ (let state = state_at (states_of states) s in IsAcceptReduce g state.cores state.shifts t)

  -- the fault names a state that has an accept/reduce conflict, or an allocation failed
  abbrev pub IsTableFaultOf : Grammar → List (State S) → BuildFault → Type 0
  IsTableFaultOf g states fault = IsRefusalOf (length states) (IsRefusedState g (states_of states)) fault

  -- the rows have the actions of the states by the precedences
  abbrev pub AreActions : {A B : Type 0} → PrecedenceLists → Grammar → List (State S) → Vec (Vec (TIdx S × Action S) A) B → Type 0
  AreActions lists g states rows = map (λ row. map (action_entry index) row.items) rows.items ≡ action_rows lists g (states_of states)

  -- the rows have the actions of the states by some precedences
  abbrev pub AreActionsBySome : {A B : Type 0} → Grammar → List (State S) → Vec (Vec (TIdx S × Action S) A) B → Type 0
  AreActionsBySome g states rows = (lists : PrecedenceLists) × AreActions lists g states rows

  -- these are the conflicts of the states that the precedences don't resolve, if there are any
  abbrev pub AreConflicts : PrecedenceLists → Grammar → List (State S) → Option ConflictLists → Type 0
  AreConflicts lists g states conflicts = conflicts ≡ conflicts_of_states lists g (states_of states)

  -- these are the conflicts of the states that the precedences resolve
  abbrev pub AreResolved : PrecedenceLists → Grammar → List (State S) → List ResolvedOf → Type 0
  AreResolved lists g states resolved = resolved ≡ resolved_of_states lists g (states_of states)

  -- the rows have the gotos of the states
  abbrev pub AreGotos : {A B : Type 0} → List (State S) → Vec (Vec (RIdx S × StIdx S) A) B → Type 0
  AreGotos states rows = map (λ row. map (goto_entry index) row.items) rows.items ≡ goto_rows (states_of states)

  -- the two lists of conflicts; none, if both are empty
  abbrev pub conflicts_of : {A B : Type 0} → Vec (TIdx S × PIdx S × PIdx S × StIdx S) A → Vec (TIdx S × PIdx S × StIdx S) B → Option ConflictLists
  conflicts_of rr sr = unless_empty (map (reduce_reduce_of index) rr.items) (map (shift_reduce_of index) sr.items)

  -- a table with these actions and conflicts, the gotos of the states, and no resolved conflicts
  abbrev pub table_of_rows : {A B : Type 0} → Grammar → List (State S) → Vec (Vec (TIdx S × Action S) A) B → Option ConflictLists → Table
  table_of_rows g states actions conflicts =
      table_with g (states_of states) (map (λ row. map (action_entry index) row.items) actions.items) conflicts []

-- there is at least one state, and at most this number of them; and the states have what the rows of a table need
pub record HaveRowsWithin {S : Type 0} (index : S → ℕ) (limit : ℕ) (g : Grammar) (states : List (State S)) : Type 0 where
  pub rows : HaveRows index g states
  pub some : 0 < length states
  pub fit : length states ≤ limit

-- the rows have the actions of the states by the precedences. The conflicts of the states were added to those found, and none of them is an
-- accept/reduce conflict.
pub record AreRowsOf {S A B : Type 0} (index : S → ℕ) (lists : PrecedenceLists) (g : Grammar) (states : List (State S)) (old new : FoundConflicts S)
    (made : Vec (Vec (TIdx S × Action S) A) B) : Type 0 where
  pub actions : AreActions index lists g states made
  pub conflicts : AddsConflicts index lists (reduce_conflicts_below g (states_of index states) (length states))
      (shift_conflicts_below g (states_of index states) (length states)) old new
  pub none : HaveNoAcceptReduce index g states

-- these are the actions of the states by the precedences, the conflicts of the states that these don't resolve, if there are any, and those
-- that they resolve. None of the states has an accept/reduce conflict.
pub record AreActionsOf {S A B : Type 0} (index : S → ℕ) (lists : PrecedenceLists) (g : Grammar) (states : List (State S))
    (made : Vec (Vec (TIdx S × Action S) A) B × Option ConflictLists × List ResolvedOf) : Type 0 where
  pub actions : AreActions index lists g states made.0
  pub conflicts : AreConflicts index lists g states made.1
  pub decided : AreResolved index lists g states made.2
  pub none : HaveNoAcceptReduce index g states

-- the graph has the items of the states, and the table is theirs by the precedences. None of the states has an accept/reduce conflict.
pub record AreTablesOf {S : Type 0} (index : S → ℕ) (lists : PrecedenceLists) (g : Grammar) (states : List (State S)) (made : Graph × Table) : Type 0 where
  pub len : HaveStates (length states) made
  pub items : HasItemsOf index g states made.0
  pub table : IsTableOf index lists g states made.1
  pub none : HaveNoAcceptReduce index g states

-- the rows are those of a table with these actions and conflicts, the gotos of the states, and no resolved conflicts
pub record HaveValidRows {S A B : Type 0} (index : S → ℕ) (limit : ℕ) (g : Grammar) (states : List (State S)) (actions : Vec (Vec (TIdx S × Action S) A) B)
    (conflicts : Option ConflictLists) (rows : SparseRows S) : Type 0 where
  pub are : sparse_table_of index rows ≡ table_of_rows index g states actions conflicts
  pub valid : IsTable limit (sparse_table_of index rows)
