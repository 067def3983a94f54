use Rattle.lrpar_lexer.specs.RuleTrees.{Grows, IsTree}
use Rattle.lrpar_lexer.proofs.RuleTreeLemmas.{AreStartsMet}
use Rattle.lrpar_lexer.proofs.rule_tree.add_starts.Given as goal

-- the rule is met by the bytes so far
abbrev pub invariant-bytes : goal.invariant-bytes
invariant-bytes l = record {
  tree : IsTree l.nodes.items;
  grows : Grows l.fn.nodes.items l.nodes.items;
  met : AreStartsMet l.nodes.items l.program l.rule l.byte;
}
