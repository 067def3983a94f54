use Rattle.std.proofs.Common.{◌≡◌, ◌∷◌, length, ◌+◌, ◌*◌}
use Rattle.lrpar_parse_trees.specs.Visits.{Entered}
use Rattle.lrpar_parse_trees.specs.Walks.{walks}
use Rattle.lrpar_parse_trees.proofs.WeightLemmas.{weights}
use Rattle.lrpar_parse_trees.proofs.GrowingLemmas.{whole, later}
use Rattle.lrpar_parse_trees.proofs.node.copied.copy_nodes.Given as goal

-- what is made and what is left have the walk through the tree
abbrev pub invariant-loop-node : goal.invariant-loop-node
invariant-loop-node g l = whole l.below.items l.ridx.0 l.made.items l.left ≡ Entered l.fn.ridx.0 (length l.fn.nodes) ∷ walks l.fn.nodes

-- the nodes that are left, and the rules to go back to
abbrev pub decreases-loop-node : goal.decreases-loop-node
decreases-loop-node g l = 2 * (weights l.left + later l.below.items) + length l.below.items
