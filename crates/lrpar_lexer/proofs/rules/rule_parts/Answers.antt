use Rattle.std.proofs.Common.{option_map}
use Rattle.lrpar_lexer.proofs.ReadingLemmas.{no_pattern}
use Rattle.lrpar_lexer.proofs.rules.rule_parts.Goals as goal

pub returns-in_err-pattern_before_gap : goal.returns-in_err-pattern_before_gap
returns-in_err-pattern_before_gap c =
    rw c.from_residual-in_err-pattern_before_gap.ensures
    (no_pattern c.args.line.now c.in_ok-front.front.now (option_map (λ name. name.now) c.in_ok-front.name) c.in_ok-front.ensures c.in_err-pattern_before_gap.ensures)
