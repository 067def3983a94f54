-- Equality of parse errors is symmetric and transitive if equality of lexemes is.
use Rattle.std.specs.Prelude.{Bool}
use Rattle.std.specs.Cmp.{IsPartialEquivalence, on_per, and_per}
use Rattle.std.specs.Cmp.Lexicographic.{lists_per}
use Rattle.lrpar_parse_lexemes.specs.RepairLaws.{nat_per, repair_per}
use Rattle.lrpar_parse_errors.specs.Failure.{failure_eq}

-- the laws of `failure_eq`
pub failure_per : {X : Type 0} {eq : X → X → Bool} → IsPartialEquivalence eq → IsPartialEquivalence (failure_eq eq)
failure_per laws =
    and_per (on_per (λ e. e.state) nat_per)
    (and_per (on_per (λ e. e.lexeme) laws) (on_per (λ e. e.repairs) (lists_per (lists_per (repair_per laws)))))
