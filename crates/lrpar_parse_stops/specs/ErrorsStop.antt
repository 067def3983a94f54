-- The states in which runs with repairs stop.
use Rattle.std.specs.Prelude.{◌≡◌, ◌<◌, ℕ, All, List, [], ◌∷◌, Option, Some}
use Rattle.lrpar_grammar.specs.Grammar.{Grammar, IsWellFormed, end_token}
use Rattle.lrpar_grammar.specs.Sentence.{LexemeFacts}
use Rattle.lrpar_table_rows.specs.Graph.{Graph}
use Rattle.lrpar_table_rows.specs.Safe.{IsSafe}
use Rattle.lrpar_table_rows.specs.Table.{FailsPastTokens, IsClosed, Table}
use Rattle.lrpar_table_stacks.specs.Stack.{top_of}
use Rattle.lrpar_table_stops.specs.ErrorStates.{CanStop}
use Rattle.lrpar_parse_lexemes.specs.Lexemes.{LexemeParts}
use Rattle.lrpar_parse_lexemes.specs.Views.{facts_by}
use Rattle.lrpar_parse_repair.specs.Asked.{Asked}
use Rattle.lrpar_parse_repair.specs.Recovery.{Point}
use Rattle.lrpar_parse_repair.specs.Sequences.{PlainStep}
use Rattle.lrpar_parse_run.specs.RepairRun.{RepairRun, RepairStop}
use Rattle.lrpar_parse_run.specs.Subject.{OfRecoverers}

-- a run can stop in the state on top of the stack of the error point
abbrev pub IsErrorState : Grammar → Table → RepairStop → Type 0
IsErrorState g table at = (s : ℕ) → top_of at.stop.stack ≡ Some s → CanStop g table s

-- each lexeme has a token of the grammar, other than the end token
abbrev pub HaveTokens : {X : Type 0} → (X → LexemeFacts) → Grammar → List X → Type 0
HaveTokens facts g lexemes = All (λ x. (facts x).token < end_token g) lexemes

-- over each safe table, a run can stop in the state of each error point of a run with repairs
abbrev pub StopsAtErrorStates : {X : Type 0} → (X → LexemeFacts) → (Point X → List (List PlainStep) → Type 0) → Type 0
StopsAtErrorStates {X} facts allows =
    (k : ℕ) (g : Grammar) (graph : Graph) (table : Table) (lexemes : List X) (stops : List RepairStop) (consumed : Option (List X)) (prods : List ℕ)
    → IsWellFormed g → IsClosed table → IsSafe g graph table → FailsPastTokens table → HaveTokens facts g lexemes
    → RepairRun facts allows k g table lexemes (table.start ∷ []) 0 stops consumed prods
    → All (IsErrorState g table) stops

-- over lexemes with these parts, whatever a recoverer answers, of the answers that these relations allow
abbrev pub AreErrorStates : {S X R : Type 0} → (S → ℕ) → (X → LexemeParts S) → (R → Asked X → List (List PlainStep) → Type 0) → Type 0
AreErrorStates index parts allows = OfRecoverers allows (StopsAtErrorStates (facts_by index parts))
