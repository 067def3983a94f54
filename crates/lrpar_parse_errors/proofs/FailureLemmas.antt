-- Equal parse errors.
use Rattle.std.proofs.Common.{◌≡◌, ℕ, List, ap}
use Rattle.lrpar_parse_lexemes.specs.Repair.{Repair}
use Rattle.lrpar_parse_errors.specs.Failure.{Failure}

-- parse errors with the same repairs
pub same_repairs : {X : Type 0} (state : ℕ) (lexeme : X) (rs ts : List (List (Repair X))) → rs ≡ ts
    → (let f : List (List (Repair X)) → Failure X = λ r. record { state = state; lexeme = lexeme; repairs = r } in f rs ≡ f ts)
same_repairs {X} state lexeme rs ts e =
    let f : List (List (Repair X)) → Failure X = λ r. record { state = state; lexeme = lexeme; repairs = r } in ap f e
