-- Marks of rules.
use Rattle.std.specs.Prelude.{◌≢◌, ℕ, Bool, false, List, [], ◌∷◌, Some, Contains, slice_get}
use Rattle.lrpar_lexer.specs.RuleTrees.{Meets}
use Rattle.lrpar_lexer.specs.declared.rule_tree.Node.{Node}

-- the walk along a text that isn't empty meets the rule
abbrev pub MeetsText : List Node → List ℕ → ℕ → Type 0
MeetsText nodes [] rule = ⊥
MeetsText nodes (byte ∷ text) rule = Meets nodes byte text rule

-- the rule is marked, or it has no mark
abbrev pub IsMarked : List Bool → ℕ → Type 0
IsMarked marks rule = slice_get marks rule ≢ Some false

-- each rule that the walk along the text meets is marked
abbrev pub AreMarked : List Node → List ℕ → List Bool → Type 0
AreMarked nodes text marks = (rule : ℕ) → MeetsText nodes text rule → IsMarked marks rule

-- these rules are marked, and those that were marked are still
pub record AddsMarks (rules : List ℕ) (old new : List Bool) : Type 0 where
  pub added : (rule : ℕ) → Contains rules rule → IsMarked new rule
  pub kept : (rule : ℕ) → IsMarked old rule → IsMarked new rule
