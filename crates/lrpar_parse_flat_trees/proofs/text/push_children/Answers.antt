use Rattle.std.proofs.Common.{◌∙◌, ◌-◌, ℕ, ap, arith, length, subst, sym}
use Rattle.lrpar_parse_flat_trees.specs.Located.{Located}
use Rattle.lrpar_parse_flat_trees.proofs.ChildrenLemmas.{Inner, fewer, inner_of}
use Rattle.lrpar_parse_flat_trees.proofs.GrowingLemmas.{some_trees}
use Rattle.lrpar_parse_flat_trees.proofs.NodeLemmas.{own_nodes}
use Rattle.lrpar_parse_flat_trees.proofs.PushingLemmas.{pushing_begins, pushing_ends, pushing_more}
use Rattle.lrpar_parse_flat_trees.proofs.text.push_children.Goals as goal

pub overflow_sub-first : goal.overflow_sub-first
overflow_sub-first g c =
    let nodes = c.node.inside.nodes.now in
    let inner = subst (λ (l : Located). Inner nodes l.tree) c.node.view_is (inner_of nodes c.node.invariant.0 c.node.invariant.1) in
    let number = c.count.ensures ∙ own_nodes c.args.node.now c.own.result.now c.own.ensures in
    omega (arith, number, inner.fits)

pub children-init : goal.children-init
children-init g c =
    let nodes = c.node.inside.nodes.now in
    let inner = subst (λ (l : Located). Inner nodes l.tree) c.node.view_is (inner_of nodes c.node.invariant.0 c.node.invariant.1) in
    let number = c.count.ensures ∙ own_nodes c.args.node.now c.own.result.now c.own.ensures in
    pushing_begins nodes c.args.node.now c.args.level (length nodes - c.count.result) c.args.left.now.items (sym c.node.view_is) inner
    (ap (λ (n : ℕ). length nodes - n) number)

pub children-smaller : goal.children-smaller
children-smaller g c =
    let rest = c.children.rest.now in
    let below = c.children.invariant.counts.below in
    fewer rest c.below_last-rest.result.now below.flat (some_trees rest below.flat (omega (arith, c.children-test.true))) c.below_last-rest.ensures

pub children-preserved : goal.children-preserved
children-preserved g c =
    pushing_more c.args.node.now c.args.level _ c.args.left.now.items c.children.left.items c.push.new.self.items c.children.rest.now c.below_last-rest.result.now
    c.children.invariant c.children-test.true c.below_last-rest.ensures c.in_ok-push.ensures.items

pub returns : goal.returns
returns g c =
    pushing_ends c.args.node.now c.args.level _ c.args.left.now.items c.children.left.items c.children.rest.now c.children.invariant (omega (arith, c.children-test.false))
