-- Parse errors as contracts see them, over lexemes of any type.
use Rattle.std.specs.Prelude.{ℕ, List, Bool, ◌==◌, ◌++◌, Option, codes}
use Rattle.std.specs.Option.{option_map}
use Rattle.std.specs.Ordering.{on, eq_of_both}
use Rattle.std.specs.Cmp.Lexicographic.{pointwise}
use Rattle.lrpar_parse_lexemes.specs.Repair.{Repair, repair_eq}

-- the state and the lexeme for which the table has no action, and the repair sequences that the error lists
pub record Failure (X : Type 0) : Type 0 where
  pub state : ℕ
  pub lexeme : X
  pub repairs : List (List (Repair X))

-- equality of parse errors, over an equality of lexemes
abbrev pub failure_eq : {X : Type 0} → (X → X → Bool) → Failure X → Failure X → Bool
failure_eq eq =
    eq_of_both (on (λ e. e.state) ◌==◌)
    (eq_of_both (on (λ e. e.lexeme) eq) (on (λ e. e.repairs) (pointwise (pointwise (repair_eq eq)))))

-- the `Display` text of a parse error, over the `Debug` text of its lexeme
abbrev pub failure_text : {X : Type 0} → (X → Option (List ℕ)) → Failure X → Option (List ℕ)
failure_text debug e = option_map (λ text. codes "Parse error at lexeme " ++ text) (debug e.lexeme)
