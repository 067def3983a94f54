use Rattle.std.proofs.Common.{◌≡◌, ◌<◌, Some, drop, get_or, take, vec_len}
use Rattle.lrpar_lexer.specs.RuleTrees.{Grows, IsTree}
use Rattle.lrpar_lexer.proofs.RuleTreeLemmas.{walk}
use Rattle.lrpar_lexer.proofs.rule_tree.add_text.Given as goal

-- the walk along the bytes so far ends at the node
abbrev pub invariant-bytes : goal.invariant-bytes
invariant-bytes l = record {
  tree : IsTree l.nodes.items;
  grows : Grows l.fn.nodes.items l.nodes.items;
  within : l.node < vec_len l.nodes;
  walks : walk l.nodes.items (get_or l.text 0 0) (take l.byte-index (drop 1 l.text)) ≡ Some l.node;
}
