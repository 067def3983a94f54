use Rattle.std.proofs.Common.{subst}
use Rattle.std.proofs.lemmas.List.{take_all}
use Rattle.lrpar_lexer.specs.Marks.{AddsMarks}
use Rattle.lrpar_lexer.proofs.MarkLemmas.{adds_more, adds_none}
use Rattle.lrpar_lexer.proofs.marks.mark_rules.Goals as goal

pub rules-init : goal.rules-init
rules-init c = adds_none c.args.marks.now.items

pub rules-preserved : goal.rules-preserved
rules-preserved c =
    adds_more c.args.rules.now c.rules.rule-index c.args.marks.now.items c.rules.marks.items c.mark_rule.new.marks.items c.rules-test.true
    c.rules.invariant c.mark_rule.ensures

pub returns : goal.returns
returns c =
    subst (λ rs. AddsMarks rs c.args.marks.now.items c.rules.marks.items) (take_all c.rules.rule-index c.args.rules.now c.rules-test.false)
    c.rules.invariant
