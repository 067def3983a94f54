-- Differences, over `Expr: Expr '-' Term | Term; Term: 'INT';`.
use Rattle.std.specs.Prelude.{◌≡◌, ◌+◌, ℕ, List, ◌∷◌}
use Rattle.lrpar_parse_run.specs.declared.values.AStackType.{AStackType}
use Rattle.lrpar_parse_run.specs.declared.values.AStackType.TheVariants.{ActionType, Lexeme}

-- The number is the difference of the two values, the right one from the left one; of one value, it is this value. Nothing is said
-- of other productions.
pub record IsDifference {X : Type 0} (p : ℕ) (args : List (AStackType X ℕ)) (value : ℕ) : Type 0 where
  pub difference : p ≡ 0 → (left right : ℕ) (minus : X) (rest : List (AStackType X ℕ)) → args ≡ ActionType left ∷ (Lexeme minus ∷ (ActionType right ∷ rest)) → value + right ≡ left
  pub same : p ≡ 1 → (only : ℕ) (rest : List (AStackType X ℕ)) → args ≡ ActionType only ∷ rest → value ≡ only
