use Rattle.std.proofs.Common.{◌+◌, ◌*◌, ◌++◌, length}
use Rattle.lrpar_parse_trees.proofs.WeightLemmas.{weights}
use Rattle.lrpar_parse_trees.proofs.FitsLemmas.{later_trees}
use Rattle.lrpar_parse_trees.proofs.node.shown.write_lines_of.Given as goal

-- the nodes that are left, and the levels to go back to
abbrev pub decreases-loop-node : goal.decreases-loop-node
decreases-loop-node g l = 2 * weights (l.nodes ++ later_trees l.left.items) + length l.left.items
