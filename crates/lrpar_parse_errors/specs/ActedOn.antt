-- The tokens at which a state of a table has an action.
use denote.Ref.{Bor}
use Rattle.std.specs.Prelude.{◌≢◌, ◌↔◌, ℕ, List, Contains, map}
use Rattle.std.specs.List.Sorted.{IsStrictlyIncreasing}
use Rattle.lrpar_grammar_places.specs.declared.span.TIdx.{TIdx}
use Rattle.lrpar_table_check.specs.Checked.{Checked}
use Rattle.lrpar_table_rows.specs.Table.{Fails, Table, action_of}
use Rattle.lrpar_parse_errors.specs.Failure.{Failure}

-- these are the tokens at which state s has an action other than an error, ascending, each once
pub record AreActedOn (table : Table) (s : ℕ) (tokens : List ℕ) : Type 0 where
  pub ascending : IsStrictlyIncreasing tokens
  pub exact : (t : ℕ) → Contains tokens t ↔ (action_of table s t ≢ Fails)

-- these are the tokens at which the error's state has an action, by the checked table
abbrev pub AreExpected : {X S : Type 0} → (S → ℕ) → Checked → Failure X → Bor (List (TIdx S)) → Type 0
AreExpected index d e tokens = AreActedOn d.table e.state (map (λ token. index token.0) tokens.now)
