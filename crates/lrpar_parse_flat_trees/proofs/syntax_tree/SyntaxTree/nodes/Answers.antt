use Rattle.lrpar_parse_flat_trees.proofs.NodeLemmas.{one_tree}
use Rattle.lrpar_parse_flat_trees.proofs.WalkLemmas.{walk_whole}
use Rattle.lrpar_parse_flat_trees.proofs.syntax_tree.SyntaxTree.nodes.Goals as goal

pub invariant_of-result : goal.invariant_of-result
invariant_of-result g c = rw c.deref.ensures.value (one_tree c.self.inside.nodes.items c.self.invariant).flat

pub returns : goal.returns
returns g c = rw (c.deref.ensures.value, ← c.self.view_is) (walk_whole c.self.inside.nodes.items c.self.invariant)
