-- The repairs that an error lists, as they are stored. `index` gives the number of a value of the storage type.
use denote.Ref.{Bor}
use Rattle.std.specs.Prelude.{◌≡◌, ◌∷◌, ℕ, List, [], MatchOption, Option, Vec, map}
use Rattle.lrpar_parse_lexemes.specs.Repairs.{repair_of, repairs_of}
use Rattle.lrpar_parse_lexemes.specs.declared.repairs.ParseRepair.{ParseRepair}
use Rattle.lrpar_parse_repair.specs.PlainSteps.{plain_sequences, plain_step, plain_steps}
use Rattle.lrpar_parse_repair.specs.Repaired.{repairs_over}
use Rattle.lrpar_parse_repair.specs.Sequences.{PlainStep}
use Rattle.lrpar_parse_repair.specs.declared.repair_step.RepairStep.{RepairStep}

module _ {S X : Type 0} (index : S → ℕ) (left : List X) where
  -- these are the repairs of the sequences over the lexemes that are left
  abbrev pub AreRepairsOf : {A B C : Type 0} → List (Vec (RepairStep S) A) → Vec (Vec (ParseRepair X S) B) C → Type 0
  AreRepairsOf listed = λ repairs. repairs_of index repairs.items ≡ map (repairs_over left) (plain_sequences index listed)

  -- these are the repairs of one sequence
  abbrev pub AreRepairsOfOne : {A : Type 0} → List (RepairStep S) → Vec (ParseRepair X S) A → Type 0
  AreRepairsOfOne steps = λ repairs. map (repair_of index) repairs.items ≡ repairs_over left (plain_steps index steps)

  -- this is the step's repair, and the lexemes that are left after it: repairs of steps that begin with the step begin with the repair, and
  -- go on over these lexemes. If it is none, they end before the step, which has no lexeme.
  abbrev pub IsRepairOver : RepairStep S → Option (ParseRepair X S × Bor (List X)) → Type 0
  IsRepairOver step found =
      MatchOption found ((steps : List PlainStep) → repairs_over left (plain_step index step ∷ steps) ≡ [])
      (λ next. (steps : List PlainStep) → repairs_over left (plain_step index step ∷ steps) ≡ repair_of index next.0 ∷ repairs_over next.1.now steps)
