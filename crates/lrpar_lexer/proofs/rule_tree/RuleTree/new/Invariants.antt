use Rattle.std.proofs.Common.{map, take}
use Rattle.lrpar_lexer.specs.Rules.{anchored_of}
use Rattle.lrpar_lexer.specs.RuleTrees.{AreMet, IsTree}
use Rattle.lrpar_lexer.proofs.rule_tree.RuleTree.new.Given as goal

-- the rules so far are met
abbrev pub invariant-rules : goal.invariant-rules
invariant-rules g l = record {
  tree : IsTree l.nodes.items;
  met : AreMet l.nodes.items (map anchored_of (take l.index l.rules));
}
