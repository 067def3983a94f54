-- What messages are about.
use Rattle.std.specs.Prelude.{ℕ, List}

-- a text, and the path under which messages name it
pub record Subject : Type 0 where
  pub text : List ℕ
  pub path : List ℕ
