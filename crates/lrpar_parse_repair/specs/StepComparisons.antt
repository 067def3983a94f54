-- What equality of steps means, and what the hash of a step feeds the hasher.
use Rattle.std.specs.Prelude.{◌≡◌, ◌↔◌, ◌++◌, ℕ, Bool, IsTrue, pos, List}
use Rattle.std.specs.Hash as fed
use Rattle.lrpar_parse_repair.specs.PlainSteps.{plain_step}
use Rattle.lrpar_parse_repair.specs.declared.repair_step.RepairStep.{RepairStep}
use Rattle.lrpar_parse_repair.specs.declared.repair_step.RepairStep.TheVariants.{Insert, Delete, Shift}

-- 0 for an insertion, 1 for a deletion and 2 for a shift; and for an insertion then the token's number
abbrev pub step_input : {S : Type 0} → (S → List (List ℕ)) → RepairStep S → List (List ℕ)
step_input number (Insert token) = fed.isize (pos 0) ++ number token.0
step_input number Delete = fed.isize (pos 1)
step_input number Shift = fed.isize (pos 2)

-- steps are equal if and only if they are of one kind and, for insertions, have tokens of one number
abbrev pub ComparesContents : {S : Type 0} → (S → ℕ) → (RepairStep S → RepairStep S → Bool) → Type 0
ComparesContents {S} index eq = (x y : RepairStep S) → IsTrue (eq x y) ↔ (plain_step index x ≡ plain_step index y)
