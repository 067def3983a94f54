-- What recoverers supply, as it is stored. `index` gives the number of a value of the storage type, and `parts` the parts of a lexeme.
use Rattle.std.specs.Prelude.{◌≡◌, ◌↔◌, ℕ, Bool, List, Vec, IfOk, IsTrue, Result}
use Rattle.lrpar_parse_lexemes.specs.Lexemes.{LexemeParts}
use Rattle.lrpar_parse_lexemes.specs.Views.{token_by}
use Rattle.lrpar_table_check.specs.Checked.{Checked}
use Rattle.lrpar_parse_repair.specs.AlwaysRepairs.{AlwaysRepairs, FirstOrSecond, SomeWorks, TwoRecoverers}
use Rattle.lrpar_parse_repair.specs.Asked.{Asked}
use Rattle.lrpar_parse_repair.specs.PlainSteps.{plain_sequences}
use Rattle.lrpar_parse_repair.specs.Sequences.{PlainStep}
use Rattle.lrpar_parse_repair.specs.declared.repair_step.RepairStep.{RepairStep}

-- the answer is one of those that are allowed
abbrev pub IsAllowed : {S A B : Type 0} → (S → ℕ) → (List (List PlainStep) → Type 0) → Vec (Vec (RepairStep S) A) B → Type 0
IsAllowed index allowed = λ answer. allowed (plain_sequences index answer.items)

-- if there is an answer, it has these sequences
abbrev pub GivesSequences : {S A B E : Type 0} → (S → ℕ) → List (List PlainStep) → Result (Vec (Vec (RepairStep S) A) B) E → Type 0
GivesSequences index sequences result = IfOk result (λ answer. plain_sequences index answer.items ≡ sequences)

-- these are the sequences that the recoverer supplies
abbrev pub Supplies : {S A B : Type 0} → (S → ℕ) → Vec (Vec (RepairStep S) A) B → List (List PlainStep) → Type 0
Supplies index sequences recoverer = recoverer ≡ plain_sequences index sequences.items

module _ {S X : Type 0} (index : S → ℕ) (parts : X → LexemeParts S) where
  -- true exactly if some sequence of the answer works at the error point
  abbrev pub TellsIfSome : {A : Type 0} → Asked X → List (Vec (RepairStep S) A) → Bool → Type 0
  TellsIfSome at answer = λ works. IsTrue works ↔ SomeWorks (token_by index parts) at (plain_sequences index answer)

  module _ {A B : Type 0} (first : A → Asked X → List (List PlainStep) → Type 0) where
    -- the answer is that of the first recoverer, or that of the second where the first one's may fail
    abbrev pub IsOfEither : {C D : Type 0} → (B → Asked X → List (List PlainStep) → Type 0) → TwoRecoverers A B → Asked X → Vec (Vec (RepairStep S) C) D → Type 0
    IsOfEither second both at = λ answer. FirstOrSecond (token_by index parts) (first both.first) (second both.second) at (plain_sequences index answer.items)

    -- if the first of two recoverers always repairs over a checked table, both together do
    abbrev pub RepairsWithFirst : (TwoRecoverers A B → Asked X → List (List PlainStep) → Type 0) → Type 0
    RepairsWithFirst together =
        (both : TwoRecoverers A B) (d : Checked) → AlwaysRepairs (token_by index parts) (first both.first) d → AlwaysRepairs (token_by index parts) (together both) d

  -- if the second of two recoverers always repairs over a checked table, both together do
  abbrev pub RepairsWithSecond : {A B : Type 0} → (B → Asked X → List (List PlainStep) → Type 0) → (TwoRecoverers A B → Asked X → List (List PlainStep) → Type 0) → Type 0
  RepairsWithSecond {A} {B} second together =
      (both : TwoRecoverers A B) (d : Checked) → AlwaysRepairs (token_by index parts) (second both.second) d → AlwaysRepairs (token_by index parts) (together both) d
