use Rattle.std.proofs.Common.{◌++◌, ◌∷◌, [], ap, arith, refl, sym, ◌∙◌}
use Rattle.lrpar_lexer.proofs.RuleTreeLemmas.{branches_read, rules_read}
use Rattle.lrpar_lexer.proofs.rule_tree.push_rule.Goals as goal

pub returns : goal.returns
returns c = record {
  node = record { rules = c.push.new.self; branches = c.index_mut.result.now.branches };
  is = refl;
  rules = c.in_ok-push.ensures.items
      ∙ ap (λ rs. rs ++ c.args.rule ∷ []) (sym (rules_read c.args.nodes.now.items c.args.node c.index_mut.result.now (omega (arith, c.requires)) c.index_mut.ensures.value));
  branches = sym (branches_read c.args.nodes.now.items c.args.node c.index_mut.result.now (omega (arith, c.requires)) c.index_mut.ensures.value);
}
