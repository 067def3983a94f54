-- Rows and tables by the indexes of code: index turns those into numbers.
use Rattle.std.specs.Prelude.{◌≡◌, ◌≤◌, ◌++◌, ℕ, All, List, [], None, Option, length, map, slice_index_or, zip}
use Rattle.std.specs.Option.{option_to_list}
use Rattle.std.specs.declared.vec.Vec.{Vec}
use Rattle.lrpar_grammar_places.specs.declared.span.RIdx.{RIdx}
use Rattle.lrpar_grammar_places.specs.declared.span.StIdx.{StIdx}
use Rattle.lrpar_grammar_places.specs.declared.span.TIdx.{TIdx}
use Rattle.lrpar_table_rows.specs.PlainRows.{action_entry, goto_entry, plain_action, plain_goto, plain_rows, sparse_table_of}
use Rattle.lrpar_table_rows.specs.Rows.{AreRows, kept_entry, row_actions, row_gotos, table_of, unless_error}
use Rattle.lrpar_table_rows.specs.Table.{AreActionsWithin, AreEntries, AreGotosWithin, Fails, IsActionEntry, IsActionWithin, IsGotoEntry, IsGotoWithin, IsTable, StoresActions, StoresGotos, Table, TableAction, action_of, actions_at, goto_of, gotos_at, states_len}
use Rattle.lrpar_table_rows.specs.declared.rows.Action.{Action}
use Rattle.lrpar_table_rows.specs.declared.rows.SparseRows.{SparseRows}
use Rattle.lrpar_table_rows.specs.declared.rows.TableRows.{TableRows}

-- the actions of a full row
abbrev pub plain_actions : {S : Type 0} → (S → ℕ) → List (Action S) → List TableAction
plain_actions index row = map (plain_action index) row

-- the gotos of a full row
abbrev pub plain_gotos : {S : Type 0} → (S → ℕ) → List (Option (StIdx S)) → List (Option ℕ)
plain_gotos index row = map (plain_goto index) row

-- no row is longer than the limit
abbrev pub AreRowsUpTo : {X Z : Type 0} → ℕ → List (Vec X Z) → Type 0
AreRowsUpTo limit rows = All (λ row. length row.items ≤ limit) rows

-- these are the row's actions but errors, each with its token
abbrev pub AreActionsOf : {S Z : Type 0} → (S → ℕ) → List (Action S) → Vec (TIdx S × Action S) Z → Type 0
AreActionsOf index row stored = map (action_entry index) stored.items ≡ row_actions (plain_actions index row)

-- these are the row's gotos, each with its rule
abbrev pub AreGotosOf : {S Z : Type 0} → (S → ℕ) → List (Option (StIdx S)) → Vec (RIdx S × StIdx S) Z → Type 0
AreGotosOf index row stored = map (goto_entry index) stored.items ≡ row_gotos (plain_gotos index row)

-- these are the actions of each row but errors, each with its token
abbrev pub AreActionsOfRows : {S Z Y X : Type 0} → (S → ℕ) → List (Vec (Action S) Z) → Vec (Vec (TIdx S × Action S) Y) X → Type 0
AreActionsOfRows index rows stored =
    map (λ row. map (action_entry index) row.items) stored.items ≡ map (λ row. row_actions (plain_actions index row.items)) rows

-- these are the gotos of each row, each with its rule
abbrev pub AreGotosOfRows : {S Z Y X : Type 0} → (S → ℕ) → List (Vec (Option (StIdx S)) Z) → Vec (Vec (RIdx S × StIdx S) Y) X → Type 0
AreGotosOfRows index rows stored =
    map (λ row. map (goto_entry index) row.items) stored.items ≡ map (λ row. row_gotos (plain_gotos index row.items)) rows

-- the action was appended with this token, unless it is an error
abbrev pub AppendsAction : {S Z : Type 0} → (S → ℕ) → ℕ → Action S → Vec (TIdx S × Action S) Z → Vec (TIdx S × Action S) Z → Type 0
AppendsAction index token action old new =
    map (action_entry index) new.items
    ≡ map (action_entry index) old.items ++ option_to_list (kept_entry unless_error (token, plain_action index action))

-- the state was appended with this rule, if there is one
abbrev pub AppendsGoto : {S Z : Type 0} → (S → ℕ) → ℕ → Option (StIdx S) → Vec (RIdx S × StIdx S) Z → Vec (RIdx S × StIdx S) Z → Type 0
AppendsGoto index rule goto old new =
    map (goto_entry index) new.items ≡ map (goto_entry index) old.items ++ option_to_list (kept_entry (λ goto. goto) (rule, plain_goto index goto))

-- the entries of a sparse row of actions are right
abbrev pub IsSparseActionRow : {S : Type 0} → (S → ℕ) → ℕ → ℕ → List (TIdx S × Action S) → Type 0
IsSparseActionRow index tokens states row = AreEntries (IsActionEntry tokens states) (map (action_entry index) row)

-- the entries of a sparse row of gotos are right
abbrev pub IsSparseGotoRow : {S : Type 0} → (S → ℕ) → ℕ → ℕ → List (RIdx S × StIdx S) → Type 0
IsSparseGotoRow index rules states row = AreEntries (IsGotoEntry rules states) (map (goto_entry index) row)

-- the full rows make a table: each state has its two rows, and all is in range
abbrev pub MakeTable : {S : Type 0} → (S → ℕ) → ℕ → TableRows S → Type 0
MakeTable index limit rows = AreRows limit (plain_rows index rows)

-- the sparse rows store a table: the entries of each state ascend, and all is in range
abbrev pub StoreTable : {S : Type 0} → (S → ℕ) → ℕ → SparseRows S → Type 0
StoreTable index limit rows = IsTable limit (sparse_table_of index rows)

-- the table is that of the full rows
abbrev pub IsTableOfRows : {S : Type 0} → (S → ℕ) → TableRows S → Table → Type 0
IsTableOfRows index rows table = table ≡ table_of (plain_rows index rows)

-- the table is that of the sparse rows
abbrev pub IsTableOfSparse : {S : Type 0} → (S → ℕ) → SparseRows S → Table → Type 0
IsTableOfSparse index rows table = table ≡ sparse_table_of index rows

-- each action of the table is that of the full rows
abbrev pub HasActionsOf : {S : Type 0} → (S → ℕ) → TableRows S → Table → Type 0
HasActionsOf index rows table =
    (s t : ℕ) → action_of table s t ≡ slice_index_or (slice_index_or (plain_rows index rows).actions s []) t Fails

-- each goto of the table is that of the full rows
abbrev pub HasGotosOf : {S : Type 0} → (S → ℕ) → TableRows S → Table → Type 0
HasGotosOf index rows table =
    (s r : ℕ) → goto_of table s r ≡ slice_index_or (slice_index_or (plain_rows index rows).gotos s []) r None

-- this is the action of the state at the token
abbrev pub IsActionAt : {S : Type 0} → (S → ℕ) → Table → StIdx S → TIdx S → Action S → Type 0
IsActionAt index table s t action = plain_action index action ≡ action_of table (index s.0) (index t.0)

-- this is the goto of the state by the rule
abbrev pub IsGotoAt : {S : Type 0} → (S → ℕ) → Table → StIdx S → RIdx S → Option (StIdx S) → Type 0
IsGotoAt index table s r goto = plain_goto index goto ≡ goto_of table (index s.0) (index r.0)

-- if the action of the state at the token is a shift, its state is one of the table
abbrev pub ShiftsWithin : {S : Type 0} → (S → ℕ) → Table → StIdx S → TIdx S → Type 0
ShiftsWithin index table s t = IsActionWithin (states_len table) (action_of table (index s.0) (index t.0))

-- if the state has a goto by the rule, it is to a state of the table
abbrev pub GoesWithin : {S : Type 0} → (S → ℕ) → Table → StIdx S → RIdx S → Type 0
GoesWithin index table s r = IsGotoWithin (states_len table) (goto_of table (index s.0) (index r.0))

-- these are the actions that are stored for the state, with their tokens
abbrev pub AreActionsAt : {S : Type 0} → (S → ℕ) → Table → StIdx S → List (TIdx S) → List (Action S) → Type 0
AreActionsAt index table s tokens actions = map (action_entry index) (zip tokens actions) ≡ actions_at table (index s.0)

-- what is stored for the state are its actions but errors
abbrev pub StoresActionsAt : {S : Type 0} → (S → ℕ) → Table → StIdx S → Type 0
StoresActionsAt index table s = StoresActions table (index s.0)

-- each action that is stored for the state is a right entry
abbrev pub ActionsFit : {S : Type 0} → (S → ℕ) → Table → StIdx S → Type 0
ActionsFit index table s = AreActionsWithin table (index s.0)

-- these are the gotos that are stored for the state, with their rules
abbrev pub AreGotosAt : {S : Type 0} → (S → ℕ) → Table → StIdx S → List (RIdx S) → List (StIdx S) → Type 0
AreGotosAt index table s rules states = map (goto_entry index) (zip rules states) ≡ gotos_at table (index s.0)

-- what is stored for the state are its gotos
abbrev pub StoresGotosAt : {S : Type 0} → (S → ℕ) → Table → StIdx S → Type 0
StoresGotosAt index table s = StoresGotos table (index s.0)

-- each goto that is stored for the state is a right entry
abbrev pub GotosFit : {S : Type 0} → (S → ℕ) → Table → StIdx S → Type 0
GotosFit index table s = AreGotosWithin table (index s.0)
