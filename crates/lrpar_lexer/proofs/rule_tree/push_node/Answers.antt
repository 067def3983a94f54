use Rattle.lrpar_lexer.proofs.rule_tree.push_node.Goals as goal

pub returns : goal.returns
returns c = record {
  node = record { rules = c.new.result; branches = c.new-2.result };
  is = c.in_ok-push.ensures.items;
  no_rules = c.new.ensures.items;
  no_branches = c.new-2.ensures.items;
}
