-- The nodes of a tree, as a walk visits them.
use Rattle.std.specs.Prelude.{ℕ, Bool, false, ◌==◌, ◌&&◌}

-- a lexeme; or a rule, with its number of children
pub data Visit (X S : Type 0) : Type 0 where
  Met : (lexeme : X) → Visit X S
  Entered : (rule : S) (children : ℕ) → Visit X S

-- equal lexemes; or equal rules with the same number of children
abbrev pub visit_eq : {X S : Type 0} → (X → X → Bool) → (S → S → Bool) → Visit X S → Visit X S → Bool
visit_eq eq same (Met x) (Met y) = eq x y
visit_eq eq same (Entered r n) (Entered q m) = same r q && (n == m)
visit_eq eq same _ _ = false
