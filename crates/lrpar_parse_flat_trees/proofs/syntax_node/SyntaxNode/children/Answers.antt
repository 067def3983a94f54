use Rattle.std.proofs.Common.{◌∙◌, arith, subst, sym}
use Rattle.lrpar_parse_flat_trees.specs.Located.{Located}
use Rattle.lrpar_parse_flat_trees.proofs.ChildrenLemmas.{Inner, can_count, children_are, inner_of}
use Rattle.lrpar_parse_flat_trees.proofs.NodeLemmas.{own_nodes}
use Rattle.lrpar_parse_flat_trees.proofs.syntax_node.SyntaxNode.children.Goals as goal

pub overflow_sub-first : goal.overflow_sub-first
overflow_sub-first g c =
    let nodes = c.self.inside.nodes.now in
    let inner = subst (λ (l : Located). Inner nodes l.tree) c.self.view_is (inner_of nodes c.self.invariant.0 c.self.invariant.1) in
    let number = c.count.ensures ∙ own_nodes c.args.self.now c.own.result.now c.own.ensures in
    omega (arith, number, inner.fits)

pub count_above-left-requires-clause-flat : goal.count_above-left-requires-clause-flat
count_above-left-requires-clause-flat g c = (inner_of c.self.inside.nodes.now c.self.invariant.0 c.self.invariant.1).all.flat

pub count_above-left-requires-clause-first : goal.count_above-left-requires-clause-first
count_above-left-requires-clause-first g c =
    let nodes = c.self.inside.nodes.now in
    let inner = subst (λ (l : Located). Inner nodes l.tree) c.self.view_is (inner_of nodes c.self.invariant.0 c.self.invariant.1) in
    let number = c.count.ensures ∙ own_nodes c.args.self.now c.own.result.now c.own.ensures in
    rw number (can_count nodes c.args.self.now.tree inner)

pub invariant_of-result : goal.invariant_of-result
invariant_of-result g c = ((inner_of c.self.inside.nodes.now c.self.invariant.0 c.self.invariant.1).all.flat, c.count_above-left.ensures.within)

pub returns : goal.returns
returns g c =
    let nodes = c.self.inside.nodes.now in
    let inner = subst (λ (l : Located). Inner nodes l.tree) c.self.view_is (inner_of nodes c.self.invariant.0 c.self.invariant.1) in
    let number = c.count.ensures ∙ own_nodes c.args.self.now c.own.result.now c.own.ensures in
    children_are nodes c.args.self.now c.count_above-left.result (sym c.self.view_is) inner (rw number at c.count_above-left.ensures)
