use Rattle.std.proofs.Common.{length}
use Rattle.lrpar_parse_flat_trees.proofs.ChildrenLemmas.{Counts}
use Rattle.lrpar_parse_flat_trees.proofs.children.count_above.Given as goal

-- so many trees are left out, none of those before the first
abbrev pub invariant-trees : goal.invariant-trees
invariant-trees g l = Counts l.first l.nodes l.rest l.count

abbrev pub decreases-trees : goal.decreases-trees
decreases-trees g l = length l.rest
