-- The answer of a completion at an error point.
use Rattle.std.specs.Prelude.{◌≡◌, ℕ, List, [], ◌∷◌, All, Option, Vec}
use Rattle.lrpar_table_check.specs.Checked.{Checked, IsChecked}
use Rattle.lrpar_table_conditions.specs.Complete.{IsComplete}
use Rattle.lrpar_table_sentences.specs.Choices.{AreShortest, ChoiceOf}
use Rattle.lrpar_table_sentences.specs.Reachable.{EachReachableHasTree}
use Rattle.lrpar_table_viable.specs.Viable.{IsViable}
use Rattle.lrpar_parse_lexemes.specs.Lexemes.{LexemeParts}
use Rattle.lrpar_parse_lexemes.specs.Views.{token_by}
use Rattle.lrpar_parse_repair.specs.Asked.{Asked}
use Rattle.lrpar_parse_repair.specs.PlainSteps.{plain_sequences}
use Rattle.lrpar_parse_repair.specs.Sequences.{PlainStep, Works}
use Rattle.lrpar_parse_repair.specs.declared.repair_step.RepairStep.{RepairStep}
use Rattle.lrpar_parse_completion.specs.Completing.{Completes, IsCompletion}
use Rattle.lrpar_parse_completion.specs.Nearest.{IsNearest, repair_at}

-- the checked table of a completion, and how many tokens are tried at each place before the end
pub record Completer : Type 0 where
  pub checked : Checked
  pub most : ℕ

-- the table is complete
abbrev pub HasCompleteTable : Checked → Type 0
HasCompleteTable d = IsComplete d.grammar d.graph d.table

-- the table is checked and complete, its reachable rules are productive, and the minimal sentences are those of its grammar
pub record IsReady (most_len : ℕ) (d : Checked) (choices : List (Option ChoiceOf)) : Type 0 where
  pub checked : IsChecked d
  pub complete : HasCompleteTable d
  pub productive : EachReachableHasTree d.grammar
  pub shortest : AreShortest d.grammar most_len choices

-- the answer is one sequence: the repair of a completion of the stack, at the nearest place
pub record IsNearestRepair {X : Type 0} (token : X → ℕ) (at : Asked X) (most : ℕ) (answer : List (List PlainStep)) : Type 0 where
  pub tokens : List ℕ
  pub completion : IsCompletion at.checked.grammar at.checked.table at.stack tokens
  pub completes : Completes at.checked.grammar at.checked.table at.stack tokens
  pub place : ℕ
  pub inserted : ℕ
  pub nearest : IsNearest token at most tokens place inserted
  pub one : answer ≡ repair_at tokens at.place place inserted ∷ []

-- the answer at an error point: each of its sequences works; and at an error point over the completion's own table, if it is viable, the
-- answer is the repair of a completion at the nearest place
pub record IsCompleted {X : Type 0} (token : X → ℕ) (own : Completer) (at : Asked X) (answer : List (List PlainStep)) : Type 0 where
  pub works : All (Works token at.checked.grammar at.checked.table at.lexemes at.shifts at.stack at.place) answer
  pub nearest : at.checked ≡ own.checked → IsViable own.checked.grammar own.checked.graph own.checked.table
      → IsNearestRepair token at own.most answer

-- Each sequence of the answer, as it is stored, works; and at an error point over the completion's own table, if it is viable, the answer
-- is the repair of a completion at the nearest place. `index` is the number that a storage number represents, and `parts` gives the parts
-- of a lexeme.
abbrev pub IsCompletedBy : {S X A B : Type 0} → (S → ℕ) → (X → LexemeParts S) → Completer → Asked X → Vec (Vec (RepairStep S) A) B → Type 0
IsCompletedBy index parts own at answer = IsCompleted (token_by index parts) own at (plain_sequences index answer.items)
