use Rattle.std.proofs.Common.{◌≡◌, length, ◌+◌, ◌*◌, ◌++◌, All}
use Rattle.lrpar_parse_trees.specs.Walks.{nodes_eq}
use Rattle.lrpar_parse_trees.proofs.WeightLemmas.{weights}
use Rattle.lrpar_parse_trees.proofs.PairLemmas.{IsEven, later_nodes, later_others}
use Rattle.lrpar_parse_trees.proofs.node.equal.are_equal.Given as goal

abbrev pub invariant-loop-node : goal.invariant-loop-node
invariant-loop-node g l = record {
  same : nodes_eq g.LexemeT.PartialEq.eq g.StorageT.PartialEq.eq (l.nodes ++ later_nodes l.left.items) (l.others ++ later_others l.left.items)
      ≡ nodes_eq g.LexemeT.PartialEq.eq g.StorageT.PartialEq.eq l.fn.nodes l.fn.others;
  even : length l.nodes ≡ length l.others;
  pairs : All IsEven l.left.items;
}

abbrev pub decreases-loop-node : goal.decreases-loop-node
decreases-loop-node g l = 2 * weights (l.nodes ++ later_nodes l.left.items) + length l.left.items
