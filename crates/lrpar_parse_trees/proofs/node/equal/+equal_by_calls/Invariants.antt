use Rattle.std.proofs.Common.{◌≡◌, length, ◌≤◌}
use Rattle.lrpar_parse_trees.specs.Walks.{nodes_eq}
use Rattle.lrpar_parse_trees.proofs.WeightLemmas.{weights}
use Rattle.lrpar_parse_trees.proofs.node.equal.+equal_by_calls.Given as goal

-- the number of nodes of the first list's trees
abbrev pub decreases-equal_by_calls : goal.decreases-equal_by_calls
decreases-equal_by_calls g l = weights l.nodes.now

-- what is left is equal if and only if the trees are
abbrev pub invariant-loop-node : goal.invariant-loop-node
invariant-loop-node g l = record {
  same : nodes_eq g.LexemeT.PartialEq.eq g.StorageT.PartialEq.eq l.nodes l.others ≡ nodes_eq g.LexemeT.PartialEq.eq g.StorageT.PartialEq.eq l.fn.nodes l.fn.others;
  even : length l.nodes ≡ length l.others;
  below : weights l.nodes ≤ weights l.fn.nodes;
}

-- the nodes that are left
abbrev pub decreases-loop-node : goal.decreases-loop-node
decreases-loop-node g l = weights l.nodes
