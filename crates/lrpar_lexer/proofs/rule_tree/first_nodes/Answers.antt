use Rattle.std.proofs.Common.{sym, ◌∙◌, arith}
use Rattle.lrpar_lexer.proofs.RuleTreeLemmas.{next_pushed, no_next, pushed_len}
use Rattle.lrpar_lexer.proofs.rule_tree.first_nodes.Goals as goal

pub bytes-init : goal.bytes-init
bytes-init c = record {
  len = c.in_ok-nodes.ensures.len;
  none = λ n byte next is. no_next c.in_ok-nodes.nodes.items n byte next c.in_ok-nodes.ensures.items is;
}

pub bytes-preserved : goal.bytes-preserved
bytes-preserved c = record {
  len = omega (arith, pushed_len _ _ c.in_ok-push_node.ensures, c.bytes.invariant.len);
  none = λ n byte next is. c.bytes.invariant.none n byte next (sym (next_pushed _ _ n byte c.in_ok-push_node.ensures) ∙ is);
}

pub returns : goal.returns
returns c = record {
  first = omega (arith, c.bytes.invariant.len, c.bytes-test.false);
  within = λ n byte next is. absurd (c.bytes.invariant.none n byte next is);
}
