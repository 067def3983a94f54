use Rattle.std.proofs.Common.{◌≡◌, ◌≢◌, ℕ, Some, vec_len}
use Rattle.lrpar_lexer.specs.RuleTrees.{next_of}
use Rattle.lrpar_lexer.proofs.rule_tree.first_nodes.Given as goal

-- the nodes so far have no branches
abbrev pub invariant-bytes : goal.invariant-bytes
invariant-bytes l = record {
  len : vec_len l.nodes ≡ l._byte;
  none : (n byte next : ℕ) → next_of l.nodes.items n byte ≢ Some next;
}
