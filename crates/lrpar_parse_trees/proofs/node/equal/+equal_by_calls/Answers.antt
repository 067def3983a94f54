use Rattle.std.proofs.Common.{arith, ◌∙◌}
use Rattle.lrpar_parse_trees.proofs.PairLemmas.{rests_even}
use Rattle.lrpar_parse_trees.proofs.WalkLemmas.{below_even, equal_after, equal_below, unequal_after, unequal_below, weights_begin}
use Rattle.lrpar_parse_trees.proofs.node.equal.+equal_by_calls.Goals as goal

pub returns-then-not-equal_by_calls : goal.returns-then-not-equal_by_calls
returns-then-not-equal_by_calls g t c =
    unequal_below g.LexemeT.PartialEq.eq g.StorageT.PartialEq.eq c.in-Some-Some.ensures.cases.0 c.in-Some-Some.ensures'.cases.0 c.if-not-is_like.ensures.like
    c.children-below.ensures c.children-other_below.ensures c.if-not-equal_by_calls.ensures
    ∙ c.loop-node.invariant.same

pub returns-then-not-equal_by_calls-2 : goal.returns-then-not-equal_by_calls-2
returns-then-not-equal_by_calls-2 g t c =
    unequal_after g.LexemeT.PartialEq.eq g.StorageT.PartialEq.eq c.in-Some-Some.ensures.cases.0 c.in-Some-Some.ensures'.cases.0 c.if-not-is_like.ensures.like
    c.children-below.ensures c.children-other_below.ensures c.if-not-equal_by_calls-2.ensures
    ∙ c.loop-node.invariant.same

pub loop-node-preserved-else-not-equal_by_calls : goal.loop-node-preserved-else-not-equal_by_calls
loop-node-preserved-else-not-equal_by_calls g t c =
    let weighed = weights_begin c.in-Some-Some.node.now c.in-Some-Some.rest.now c.loop-node.nodes.now c.children-below.result.now
    c.in-Some-Some.ensures.cases.0 c.children-below.ensures in
    record {
      same = equal_below g.LexemeT.PartialEq.eq g.StorageT.PartialEq.eq c.in-Some-Some.ensures.cases.0 c.in-Some-Some.ensures'.cases.0 c.if-not-is_like.ensures.like
          c.children-below.ensures c.children-other_below.ensures c.if-not-equal_by_calls.ensures
          ∙ c.loop-node.invariant.same;
      even = rests_even c.loop-node.nodes.now c.loop-node.others.now c.in-Some-Some.rest.now c.in-Some-Some.other_rest.now
          c.in-Some-Some.ensures.cases.1 c.in-Some-Some.ensures'.cases.1 c.loop-node.invariant.even;
      below = omega (arith, weighed, c.loop-node.invariant.below);
    }

pub loop-node-preserved : goal.loop-node-preserved
loop-node-preserved g t c =
    let weighed = weights_begin c.in-Some-Some.node.now c.in-Some-Some.rest.now c.loop-node.nodes.now c.children-below.result.now
    c.in-Some-Some.ensures.cases.0 c.children-below.ensures in
    record {
      same = equal_after g.LexemeT.PartialEq.eq g.StorageT.PartialEq.eq c.in-Some-Some.ensures.cases.0 c.in-Some-Some.ensures'.cases.0 c.if-not-is_like.ensures.like
          c.children-below.ensures c.children-other_below.ensures c.if-not-equal_by_calls-2.ensures
          ∙ c.loop-node.invariant.same;
      even = below_even g.LexemeT.PartialEq.eq g.StorageT.PartialEq.eq c.in-Some-Some.node.now c.in-Some-Some.other.now c.children-below.result.now c.children-other_below.result.now
          c.if-not-is_like.ensures.like c.children-below.ensures c.children-other_below.ensures;
      below = omega (arith, weighed, c.loop-node.invariant.below);
    }
