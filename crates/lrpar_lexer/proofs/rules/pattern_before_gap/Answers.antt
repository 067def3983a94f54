use Rattle.std.proofs.Common.{◌≡◌, ◌⊎◌, ◌<◌, length, inl, inr, sym, ◌∙◌, arith, eqb-true}
use Rattle.std.proofs.lemmas.Bool.Decides.{nat_tests}
use Rattle.lrpar_lexer.proofs.MarginLemmas.{blank_end}
use Rattle.lrpar_lexer.proofs.ReadingLemmas.{gap_of_cut, no_gap}
use Rattle.lrpar_lexer.proofs.rules.pattern_before_gap.Goals as goal

pub returns-then-pattern-front : goal.returns-then-pattern-front
returns-then-pattern-front c =
    let front = c.args.front.now in
    let rest = c.trim_end_matches-pattern.result.now in
    let cut = blank_end front rest c.trim_end_matches-pattern.ensures.matches in
    let lengths : (length rest ≡ 0) ⊎ (length rest ≡ length front) = elim c.if-pattern-front.either [
      | inl empty ↦ inl (eqb-true (length rest) 0 (sym c.is_empty.ensures ∙ empty))
      | inr other ↦ inr other.1
    ] in
    no_gap front rest cut.0 cut.1 lengths

pub returns-else-pattern-front : goal.returns-else-pattern-front
returns-else-pattern-front c =
    let front = c.args.front.now in
    let rest = c.trim_end_matches-pattern.result.now in
    let cut = blank_end front rest c.trim_end_matches-pattern.ensures.matches in
    let some : 0 < length rest = grind (arith, nat_tests, c.is_empty.ensures, c.if-pattern-front.false.0) in
    let less : length rest < length front = omega (arith, c.trim_end_matches-pattern.ensures.bound, c.if-pattern-front.false.1) in
    gap_of_cut front rest cut.0 cut.1 some less
