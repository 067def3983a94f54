-- The shifts and gotos of a state, as they are read from what is stored for it.
use Rattle.std.proofs.Common.{◌≡◌, ◌≢◌, ◌<◌, ◌↔◌, sym, subst, arith, ℕ, List, Some, length, map, slice_index_or}
use Rattle.std.specs.List.{Contains}
use Rattle.std.proofs.lemmas.List.Elements.{All-contains}
use Rattle.lrpar_grammar_places.specs.declared.span.RIdx.{RIdx}
use Rattle.lrpar_grammar_places.specs.declared.span.StIdx.{StIdx}
use Rattle.lrpar_grammar_places.specs.declared.span.TIdx.{TIdx}
use Rattle.lrpar_table_rows.specs.PlainRows.{plain_action}
use Rattle.lrpar_table_rows.specs.StoredRows.{AreActionsAt, AreGotosAt, IsActionAt}
use Rattle.lrpar_table_rows.specs.Table.{AreActionsWithin, AreGotosWithin, Fails, IsActionEntry, IsGotoEntry, ShiftTo, StoresActions, StoresGotos, Table, action_of, actions_at, goto_of, gotos_at, states_len}
use Rattle.lrpar_table_rows.specs.declared.rows.Action.{Action}
use Rattle.lrpar_table_stacks.specs.Stack.{HasGotoTo, HasShiftTo, states_of}
use Rattle.lrpar_table_stacks.proofs.StackLemmas.{stored_value}
use Rattle.lrpar_table_rows.proofs.StoredLemmas.{entries_len, entry_read}

-- an action that was read with its token is that of the state at the token
pub action_read : {S : Type 0} (index : S → ℕ) (table : Table) (s : StIdx S) (ts : List (TIdx S)) (actions : List (Action S))
    → AreActionsAt index table s ts actions → length actions ≡ length ts → StoresActions table (index s.0) → (place : ℕ) (token : TIdx S) (action : Action S)
    → place < length ts → token ≡ slice_index_or ts place token → action ≡ slice_index_or actions place action → IsActionAt index table s token action
action_read {S} index table s ts actions entries paired exact place token action low token_at action_at =
    let es = actions_at table (index s.0) in
    let read = entry_read (λ (t : TIdx S). index t.0) (plain_action index) ts actions es paired entries place token action low token_at action_at in
    let len = entries_len (λ (t : TIdx S). index t.0) (plain_action index) ts actions es paired entries in
    sym ((exact (index token.0) (plain_action index action)).0 (place, omega (arith, len, low), sym read)).0

-- a shift leads to a state exactly if an action that was read is a shift to it
module _ {S : Type 0} (index : S → ℕ) (here table : Table) (same : here ≡ table) (s : StIdx S) (next : ℕ) where
  pub shift_read : (ts : List (TIdx S)) (actions : List (Action S)) → AreActionsAt index here s ts actions → length actions ≡ length ts
      → StoresActions here (index s.0) → AreActionsWithin here (index s.0)
      → Contains (map (plain_action index) actions) (ShiftTo next) ↔ HasShiftTo table (index s.0) next
  shift_read ts actions entries paired exact within =
      let es = actions_at here (index s.0) in
      let stored : ShiftTo next ≢ Fails = λ (e : _). cc in
      subst (λ (t : Table). Contains (map (plain_action index) actions) (ShiftTo next) ↔ HasShiftTo t (index s.0) next) same
      (stored_value (λ t. index t.0) (plain_action index) ts actions es (ShiftTo next) here.tokens
      (λ t. action_of here (index s.0) t ≡ ShiftTo next) paired entries
      (λ t h. (All-contains (IsActionEntry here.tokens (states_len here)) es (t, ShiftTo next) within h).token)
      (λ t. (λ h. ((exact t (ShiftTo next)).0 h).0, λ h. (exact t (ShiftTo next)).1 (h, stored))))

  -- and a goto, exactly if it is one of the states that were read
  pub goto_read : (rs : List (RIdx S)) (states : List (StIdx S)) → AreGotosAt index here s rs states → length states ≡ length rs
      → StoresGotos here (index s.0) → AreGotosWithin here (index s.0) → Contains (states_of index states) next ↔ HasGotoTo table (index s.0) next
  goto_read rs states entries paired exact within =
      let es = gotos_at here (index s.0) in
      subst (λ (t : Table). Contains (states_of index states) next ↔ HasGotoTo t (index s.0) next) same
      (stored_value (λ r. index r.0) (λ x. index x.0) rs states es next here.rules (λ r. goto_of here (index s.0) r ≡ Some next) paired entries
      (λ r h. (All-contains (IsGotoEntry here.rules (states_len here)) es (r, next) within h).rule) (λ r. exact r next))
