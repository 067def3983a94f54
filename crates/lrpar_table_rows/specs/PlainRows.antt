-- The rows that values of code represent, by the numbers of their indexes.
use Rattle.std.specs.Prelude.{ℕ, [], map, Option, Some, None}
use Rattle.lrpar_grammar_places.specs.declared.span.RIdx.{RIdx}
use Rattle.lrpar_grammar_places.specs.declared.span.StIdx.{StIdx}
use Rattle.lrpar_grammar_places.specs.declared.span.TIdx.{TIdx}
use Rattle.lrpar_table_rows.specs.Rows.{Rows}
use Rattle.lrpar_table_rows.specs.Table.{Table, TableAction, ShiftTo, ReduceBy, Accepts, Fails}
use Rattle.lrpar_table_rows.specs.declared.rows.Action.{Action}
use Rattle.lrpar_table_rows.specs.declared.rows.Action.TheVariants.{Shift, Reduce, Accept, Error}
use Rattle.lrpar_table_rows.specs.declared.rows.SparseRows.{SparseRows}
use Rattle.lrpar_table_rows.specs.declared.rows.TableRows.{TableRows}

-- the action that a value of code represents
abbrev pub plain_action : {S : Type 0} → (S → ℕ) → Action S → TableAction
plain_action index (Shift s) = ShiftTo (index s.0)
plain_action index (Reduce p) = ReduceBy (index p.0)
plain_action index Accept = Accepts
plain_action index Error = Fails

-- the goto that a value of code represents, if there is one
abbrev pub plain_goto : {S : Type 0} → (S → ℕ) → Option (StIdx S) → Option ℕ
plain_goto index (Some s) = Some (index s.0)
plain_goto index None = None

-- an entry of a row of actions: a token with an action
abbrev pub action_entry : {S : Type 0} → (S → ℕ) → TIdx S × Action S → ℕ × TableAction
action_entry index entry = (index entry.0.0, plain_action index entry.1)

-- an entry of a row of gotos: a rule with a state to go to
abbrev pub goto_entry : {S : Type 0} → (S → ℕ) → RIdx S × StIdx S → ℕ × ℕ
goto_entry index entry = (index entry.0.0, index entry.1.0)

-- full rows, over indexes of S
abbrev pub plain_rows : {S : Type 0} → (S → ℕ) → TableRows S → Rows
plain_rows index rows = record {
  start = index rows.start.0;
  tokens = rows.tokens;
  rules = rows.rules;
  actions = map (λ row. map (plain_action index) row.items) rows.actions.items;
  gotos = map (λ row. map (plain_goto index) row.items) rows.gotos.items;
  conflicts = rows.conflicts;
}

-- the table that sparse rows make
abbrev pub sparse_table_of : {S : Type 0} → (S → ℕ) → SparseRows S → Table
sparse_table_of index rows = record {
  start = index rows.start.0;
  states = rows.states;
  tokens = rows.tokens;
  rules = rows.rules;
  actions = map (λ row. map (action_entry index) row.items) rows.actions.items;
  gotos = map (λ row. map (goto_entry index) row.items) rows.gotos.items;
  conflicts = rows.conflicts;
  resolved = [];
}
