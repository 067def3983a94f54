use Rattle.std.proofs.Common.{arith, ap, length}
use Rattle.lrpar_parse_flat_trees.proofs.NodeLemmas.{one_tree, root_is}
use Rattle.lrpar_parse_flat_trees.proofs.syntax_tree.SyntaxTree.root.Goals as goal

pub invariant_of-result : goal.invariant_of-result
invariant_of-result g c =
    let one = one_tree c.self.inside.nodes.items c.self.invariant in
    rw c.deref.ensures.value (one.flat, omega (arith, ap (λ ts. length ts) one.trees_are))

pub returns : goal.returns
returns g c = rw (c.deref.ensures.value, ← c.self.view_is) (root_is c.self.inside.nodes.items c.self.invariant)
