-- The table that the parts of a table in code represent, by the numbers of their indexes.
use Rattle.std.specs.Prelude.{ℕ, List, map, length, Option}
use Rattle.lrpar_grammar_places.specs.declared.span.RIdx.{RIdx}
use Rattle.lrpar_grammar_places.specs.declared.span.StIdx.{StIdx}
use Rattle.lrpar_grammar_places.specs.declared.span.TIdx.{TIdx}
use Rattle.lrpar_table_rows.specs.PlainRows.{action_entry, goto_entry}
use Rattle.lrpar_table_rows.specs.Table.{ConflictLists, ResolvedOf, Table}
use Rattle.lrpar_table_rows.specs.declared.rows.Action.{Action}

-- the table of these parts: its start state, its numbers of tokens and rules, and the entries of each state
abbrev pub plain_table : {S : Type 0} → (S → ℕ) → StIdx S → ℕ → ℕ → List (List (TIdx S × Action S)) → List (List (RIdx S × StIdx S)) → Option ConflictLists → List ResolvedOf → Table
plain_table index start tokens rules actions gotos conflicts resolved = record {
  start = index start.0;
  states = length actions;
  tokens = tokens;
  rules = rules;
  actions = map (map (action_entry index)) actions;
  gotos = map (map (goto_entry index)) gotos;
  conflicts = conflicts;
  resolved = resolved;
}
