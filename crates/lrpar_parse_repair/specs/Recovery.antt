-- What a recoverer gets at an error point.
use Rattle.std.specs.Prelude.{ℕ, List}

-- the lexemes of the parse; the place of the one that has no action, which is one past the last at the end of the input; and the
-- states of the stack after all reductions at its token, bottom first
pub record Point (X : Type 0) : Type 0 where
  pub lexemes : List X
  pub place : ℕ
  pub stack : List ℕ
