use Rattle.std.proofs.Common.{arith, inl}
use Rattle.lrpar_lexer.proofs.RuleTreeLemmas.{rule_grows, rule_is_there}
use Rattle.lrpar_lexer.proofs.rule_tree.add_start.Goals as goal

pub returns-in_ok-push_rule-clause-grows : goal.returns-in_ok-push_rule-clause-grows
returns-in_ok-push_rule-clause-grows c = rule_grows _ _ _ _ c.in_ok-push_rule.ensures

pub returns-in_ok-push_rule-clause-met : goal.returns-in_ok-push_rule-clause-met
returns-in_ok-push_rule-clause-met c text not = absurd (not (inl (rule_is_there c.args.nodes.now.items c.push_rule.new.nodes.items c.args.byte c.args.rule (omega (arith, c.requires.within)) c.in_ok-push_rule.ensures)))
