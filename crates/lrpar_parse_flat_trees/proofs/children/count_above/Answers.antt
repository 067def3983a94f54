use Rattle.std.proofs.Common.{arith}
use Rattle.lrpar_parse_flat_trees.proofs.ChildrenLemmas.{counted_all, counts_more, counts_none, fewer}
use Rattle.lrpar_parse_flat_trees.proofs.GrowingLemmas.{some_trees}
use Rattle.lrpar_parse_flat_trees.proofs.children.count_above.Goals as goal

pub trees-init : goal.trees-init
trees-init g c = counts_none c.args.first c.args.nodes.now c.requires.flat c.requires.first

pub trees-smaller : goal.trees-smaller
trees-smaller g c =
    let rest = c.trees.rest.now in
    let below = c.trees.invariant.below in
    fewer rest c.below_last-rest.result.now below.flat (some_trees rest below.flat (omega (arith, c.trees-test.true))) c.below_last-rest.ensures

pub trees-preserved : goal.trees-preserved
trees-preserved g c =
    counts_more c.args.first c.args.nodes.now c.trees.rest.now c.below_last-rest.result.now c.trees.count c.requires.first c.trees.invariant c.trees-test.true c.below_last-rest.ensures

pub returns : goal.returns
returns g c =
    counted_all c.args.first c.args.nodes.now c.trees.rest.now c.trees.count c.requires.flat c.trees.invariant (omega (arith, c.trees-test.false))
