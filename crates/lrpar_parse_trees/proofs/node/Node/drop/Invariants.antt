use Rattle.std.proofs.Common.{◌+◌}
use Rattle.lrpar_parse_trees.proofs.WeightLemmas.{measure, weight, left_weight}
use Rattle.lrpar_parse_trees.proofs.node.Node.drop.Given as goal

-- the nodes that are left, and among these those of the current tree
abbrev pub decreases-loop-self : goal.decreases-loop-self
decreases-loop-self g l = measure (weight l.self + left_weight l.left) (weight l.self)
