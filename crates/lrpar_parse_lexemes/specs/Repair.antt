-- Steps of repair sequences as contracts see them, over lexemes of any type.
use Rattle.std.specs.Prelude.{ℕ, Bool, false, ◌==◌}

-- one step: insert a lexeme of a token before the rest of the input, leave out the next lexeme of the input, or keep it
pub data Repair (X : Type 0) : Type 0 where
  Inserted : (token : ℕ) → Repair X
  Deleted : (lexeme : X) → Repair X
  Shifted : (lexeme : X) → Repair X

-- equality of steps, over an equality of lexemes
abbrev pub repair_eq : {X : Type 0} → (X → X → Bool) → Repair X → Repair X → Bool
repair_eq eq (Inserted t) (Inserted u) = t == u
repair_eq eq (Deleted x) (Deleted y) = eq x y
repair_eq eq (Shifted x) (Shifted y) = eq x y
repair_eq eq _ _ = false
