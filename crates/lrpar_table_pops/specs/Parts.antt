-- An automaton whose runs are looked at, and tables with some of the actions of another one.
use Rattle.std.specs.Prelude.{◌≡◌, ◌⊎◌, ℕ, All, List, map}
use Rattle.lrpar_grammar.specs.Grammar.{Grammar}
use Rattle.lrpar_grammar_places.specs.declared.span.RIdx.{RIdx}
use Rattle.lrpar_grammar_places.specs.declared.span.StIdx.{StIdx}
use Rattle.lrpar_grammar_places.specs.declared.span.TIdx.{TIdx}
use Rattle.lrpar_table_rows.specs.Graph.{Graph}
use Rattle.lrpar_table_rows.specs.PlainRows.{goto_entry, plain_action}
use Rattle.lrpar_table_rows.specs.Table.{Fails, Table, action_of, goto_of, gotos_at, states_len}
use Rattle.lrpar_table_rows.specs.declared.rows.Action.{Action}

-- a grammar, its item sets, and a table
pub record Parts : Type 0 where
  pub grammar : Grammar
  pub graph : Graph
  pub table : Table

-- the part is the whole table, but for some actions, which are errors in it
pub record IsPartOf (whole part : Table) : Type 0 where
  pub start : part.start ≡ whole.start
  pub states : states_len part ≡ states_len whole
  pub tokens : part.tokens ≡ whole.tokens
  pub rules : part.rules ≡ whole.rules
  pub actions : (s t : ℕ) → (action_of part s t ≡ Fails) ⊎ (action_of part s t ≡ action_of whole s t)
  pub gotos : (s r : ℕ) → goto_of part s r ≡ goto_of whole s r

-- each of these actions is that of state s at its token
abbrev pub HasSomeActionsOf : {S : Type 0} → (S → ℕ) → Table → ℕ → List (TIdx S × Action S) → Type 0
HasSomeActionsOf index table s row = All (λ entry. action_of table s (index entry.0.0) ≡ plain_action index entry.1) row

-- these are the gotos of state s, as they are stored
abbrev pub HasGotosOf : {S : Type 0} → (S → ℕ) → Table → ℕ → List (RIdx S × StIdx S) → Type 0
HasGotosOf index table s row = map (goto_entry index) row ≡ gotos_at table s
