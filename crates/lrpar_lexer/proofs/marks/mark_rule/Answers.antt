use Rattle.std.proofs.Common.{arith}
use Rattle.lrpar_lexer.proofs.MarkLemmas.{adds_one, mark_is_set, marks_stay, no_mark}
use Rattle.lrpar_lexer.proofs.marks.mark_rule.Goals as goal

pub returns-then-rule-len : goal.returns-then-rule-len
returns-then-rule-len c =
    adds_one c.args.rule c.args.marks.now.items _ (mark_is_set c.args.marks.now.items c.args.rule (omega arith))
    (marks_stay c.args.marks.now.items c.args.rule)

pub returns-else-rule-len : goal.returns-else-rule-len
returns-else-rule-len c =
    adds_one c.args.rule c.args.marks.now.items c.args.marks.now.items (no_mark c.args.marks.now.items c.args.rule (omega arith)) (λ other marked. marked)
