-- Steps of the program as the definitions see them. `index` gives the number of a value of the storage type.
use Rattle.std.specs.Prelude.{ℕ, List, map, Vec}
use Rattle.lrpar_parse_repair.specs.Sequences.{PlainStep, PlainInsert, PlainDelete, PlainShift}
use Rattle.lrpar_parse_repair.specs.declared.repair_step.RepairStep.{RepairStep}
use Rattle.lrpar_parse_repair.specs.declared.repair_step.RepairStep.TheVariants.{Insert, Delete, Shift}

-- a step as it is stored, with its token by number
abbrev pub plain_step : {S : Type 0} → (S → ℕ) → RepairStep S → PlainStep
plain_step index (Insert token) = PlainInsert (index token.0)
plain_step index Delete = PlainDelete
plain_step index Shift = PlainShift

-- a sequence of steps as it is stored, with their tokens by number
abbrev pub plain_steps : {S : Type 0} → (S → ℕ) → List (RepairStep S) → List PlainStep
plain_steps index steps = map (plain_step index) steps

-- sequences as they are stored, with their tokens by number
abbrev pub plain_sequences : {S A : Type 0} → (S → ℕ) → List (Vec (RepairStep S) A) → List (List PlainStep)
plain_sequences index sequences = map (λ steps. plain_steps index steps.items) sequences
