use Rattle.std.proofs.Common.{◌++◌, ◌∷◌, [], ap, arith, refl, sym, ◌∙◌}
use Rattle.lrpar_lexer.proofs.RuleTreeLemmas.{branches_read, rules_read}
use Rattle.lrpar_lexer.proofs.rule_tree.push_branch.Goals as goal

pub returns : goal.returns
returns c = record {
  node = record { rules = c.index_mut.result.now.rules; branches = c.push.new.self };
  is = refl;
  rules = sym (rules_read c.args.nodes.now.items c.args.node c.index_mut.result.now (omega (arith, c.requires)) c.index_mut.ensures.value);
  branches = c.in_ok-push.ensures.items
      ∙ ap (λ bs. bs ++ c.args.branch ∷ []) (sym (branches_read c.args.nodes.now.items c.args.node c.index_mut.result.now (omega (arith, c.requires)) c.index_mut.ensures.value));
}
