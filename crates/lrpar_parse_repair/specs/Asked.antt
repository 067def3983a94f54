-- What a recoverer gets at an error point, with the checked table, and what holds for it.
use Rattle.std.specs.Prelude.{◌≡◌, ◌<◌, ◌≤◌, ℕ, List, length, slice_get, Some}
use Rattle.lrpar_grammar.specs.Grammar.{Grammar, end_token}
use Rattle.lrpar_table_rows.specs.Table.{Fails}
use Rattle.lrpar_table_check.specs.Checked.{Checked, IsChecked}
use Rattle.lrpar_table_stacks.specs.Reduction.{top_action}
use Rattle.lrpar_table_stacks.specs.Run.{token_at}
use Rattle.lrpar_table_stacks.specs.Stack.{IsStack, states_of}
use Rattle.lrpar_grammar_places.specs.declared.span.StIdx.{StIdx}
use Rattle.lrpar_parse_lexemes.specs.Lexemes.{LexemeParts}
use Rattle.lrpar_parse_lexemes.specs.Views.{token_by}
use Rattle.lrpar_parse_repair.specs.Recovery.{Point}
use Rattle.lrpar_parse_repair.specs.Sequences.{PlainStep}

-- the checked table; how many lexemes must follow a repair; the lexemes of the parse; the place of the one that has no action, which is
-- one past the last at the end of the input; and the states of the stack after all reductions at its token, bottom first
pub record Asked (X : Type 0) : Type 0 where
  pub checked : Checked
  pub shifts : ℕ
  pub lexemes : List X
  pub place : ℕ
  pub stack : List ℕ

-- the question to a recoverer at an error point of a parse
abbrev pub asked_at : {X : Type 0} → Checked → ℕ → Point X → Asked X
asked_at d k point = record { checked = d; shifts = k; lexemes = point.lexemes; place = point.place; stack = point.stack }

-- the answers that a recoverer may give at the error points of a parse
abbrev pub allowed_at : {X : Type 0} → (Asked X → List (List PlainStep) → Type 0) → Checked → ℕ → Point X → List (List PlainStep) → Type 0
allowed_at allows d k point answer = allows (asked_at d k point) answer

-- each lexeme has a token of the grammar other than the end token
abbrev pub HaveTokens : {X : Type 0} → (X → ℕ) → Grammar → List X → Type 0
HaveTokens {X} token g lexemes = (i : ℕ) (x : X) → slice_get lexemes i ≡ Some x → token x < end_token g

-- An error point of a parse: at least one lexeme must follow a repair; the place is that of a lexeme, or one past the last; each lexeme
-- has a token of the grammar other than the end token; the stack is the table's; and its top has no action at the token of the place.
pub record IsStop {X : Type 0} (token : X → ℕ) (at : Asked X) : Type 0 where
  pub checked : IsChecked at.checked
  pub shifts : 0 < at.shifts
  pub within : at.place ≤ length at.lexemes
  pub tokens : HaveTokens token at.checked.grammar at.lexemes
  pub stack : IsStack at.checked.table at.stack
  pub fails : top_action at.checked.table (token_at token at.checked.grammar at.lexemes at.place) at.stack ≡ Fails

-- an error point over lexemes as they are stored, of which `parts` gives the parts
abbrev pub IsStopBy : {S X : Type 0} → (S → ℕ) → (X → LexemeParts S) → Asked X → Type 0
IsStopBy index parts at = IsStop (token_by index parts) at

-- the question to a recoverer, with a stack as it is stored
abbrev pub asked_of : {S X : Type 0} → (S → ℕ) → Checked → ℕ → List X → ℕ → List (StIdx S) → Asked X
asked_of index d k lexemes place stack = record { checked = d; shifts = k; lexemes = lexemes; place = place; stack = states_of index stack }

-- the question to a recoverer, with a stack as it is stored, is asked at an error point
abbrev pub StopsAt : {S X : Type 0} → (S → ℕ) → (X → LexemeParts S) → Checked → ℕ → List X → ℕ → List (StIdx S) → Type 0
StopsAt index parts d k lexemes place stack = IsStopBy index parts (asked_of index d k lexemes place stack)
