-- The answer of a completion by the table's own runs, at an error point.
use Rattle.std.specs.Prelude.{◌≡◌, ℕ, List, [], ◌∷◌, All, Vec}
use Rattle.lrpar_parse_lexemes.specs.Lexemes.{LexemeParts}
use Rattle.lrpar_parse_lexemes.specs.Views.{token_by}
use Rattle.lrpar_parse_repair.specs.AlwaysRepairs.{AlwaysRepairs}
use Rattle.lrpar_parse_repair.specs.Asked.{Asked}
use Rattle.lrpar_parse_repair.specs.PlainSteps.{plain_sequences}
use Rattle.lrpar_parse_repair.specs.Sequences.{PlainStep, Works}
use Rattle.lrpar_parse_repair.specs.declared.repair_step.RepairStep.{RepairStep}
use Rattle.lrpar_table_check.specs.Checked.{Checked, IsChecked}
use Rattle.lrpar_table_pops.specs.Completable.{AreAllCompletable}
use Rattle.lrpar_table_sentences.specs.Choices.{AreShortest, ChoiceOf}
use Rattle.std.specs.Prelude.{Option}
use Rattle.lrpar_parse_completion.specs.Answer.{Completer}
use Rattle.lrpar_parse_completion.specs.Nearest.{IsNearest, repair_at}
use Rattle.lrpar_parse_completion.specs.Reached.{Finishes}

-- the table is checked, each of its stacks can be completed, and the minimal sentences are those of its grammar
pub record IsReadyByTable (most_len : ℕ) (d : Checked) (choices : List (Option ChoiceOf)) : Type 0 where
  pub checked : IsChecked d
  pub completable : AreAllCompletable d.grammar d.table
  pub shortest : AreShortest d.grammar most_len choices

-- the answer is one sequence: the repair of tokens that finish the stack, at the nearest place
pub record IsNearestFinish {X : Type 0} (token : X → ℕ) (at : Asked X) (most : ℕ) (answer : List (List PlainStep)) : Type 0 where
  pub tokens : List ℕ
  pub finish : Finishes at.checked.grammar at.checked.table at.stack tokens
  pub place : ℕ
  pub inserted : ℕ
  pub nearest : IsNearest token at most tokens place inserted
  pub one : answer ≡ repair_at tokens at.place place inserted ∷ []

-- the answer at an error point: each of its sequences works; and over the completion's own table it is the repair of tokens that finish the
-- stack, at the nearest place
pub record IsFinished {X : Type 0} (token : X → ℕ) (own : Completer) (at : Asked X) (answer : List (List PlainStep)) : Type 0 where
  pub works : All (Works token at.checked.grammar at.checked.table at.lexemes at.shifts at.stack at.place) answer
  pub nearest : at.checked ≡ own.checked → IsNearestFinish token at own.most answer

-- a stored answer is such an answer. `index` is the number that a storage number represents, and `parts` gives the parts of a lexeme
abbrev pub IsFinishedBy : {S X A B : Type 0} → (S → ℕ) → (X → LexemeParts S) → Completer → Asked X → Vec (Vec (RepairStep S) A) B → Type 0
IsFinishedBy index parts own at answer = IsFinished (token_by index parts) own at (plain_sequences index answer.items)

-- over its own table, such a completion always repairs; X is the type of lexemes
abbrev pub TableCompletionsRepair : Type 0 → Type 0
TableCompletionsRepair X = (token : X → ℕ) (own : Completer) → AlwaysRepairs token (IsFinished token own) own.checked
