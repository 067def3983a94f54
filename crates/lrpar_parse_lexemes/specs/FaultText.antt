-- Why the text of an error can't be made: the texts of these faults, and when two of them are equal.
use Rattle.std.specs.Prelude.{◌≡◌, ◌↔◌, ℕ, Bool, IsTrue, List, ◌++◌, ⊤, Option, Some, codes}
use Rattle.std.specs.Fmt.{decimal}
use Rattle.lrpar_parse_lexemes.specs.declared.pp_fault.PpFault.{PpFault}
use Rattle.lrpar_parse_lexemes.specs.declared.pp_fault.PpFault.TheVariants.{NoPrintedName, Memory}

-- the text of a fault, with the token's number
abbrev pub pp_fault_text : {S : Type 0} → (S → ℕ) → PpFault S → Option (List ℕ)
pp_fault_text index (NoPrintedName t) = Some (codes "no printed name for token " ++ decimal (index t.0))
pp_fault_text index Memory = Some (codes "out of memory")

-- both faults name one token, or both say that an allocation failed
abbrev pub IsSameFault : {S : Type 0} → (S → ℕ) → PpFault S → PpFault S → Type 0
IsSameFault index (NoPrintedName t) (NoPrintedName u) = index t.0 ≡ index u.0
IsSameFault index (NoPrintedName t) Memory = ⊥
IsSameFault index Memory (NoPrintedName u) = ⊥
IsSameFault index Memory Memory = ⊤

-- two faults are equal by `eq` exactly if they are the same
abbrev pub ComparesFaults : {S : Type 0} → (S → ℕ) → (PpFault S → PpFault S → Bool) → Type 0
ComparesFaults {S = S} index eq = (x y : PpFault S) → IsTrue (eq x y) ↔ IsSameFault index x y
