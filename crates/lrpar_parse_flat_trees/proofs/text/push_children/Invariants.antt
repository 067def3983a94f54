use Rattle.std.proofs.Common.{length}
use Rattle.lrpar_parse_flat_trees.proofs.PushingLemmas.{Pushing}
use Rattle.lrpar_parse_flat_trees.proofs.text.push_children.Given as goal

abbrev pub invariant-children : goal.invariant-children
invariant-children g l = Pushing l.node l.level l.first l.fn.left.items l.left.items l.rest

abbrev pub decreases-children : goal.decreases-children
decreases-children g l = length l.rest
