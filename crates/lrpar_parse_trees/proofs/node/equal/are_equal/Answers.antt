use Rattle.std.proofs.Common.{length, true, false, Some, ap, sym, ◌∙◌}
use Rattle.std.proofs.lemmas.List.{length_push, nil_from_length}
use Rattle.std.proofs.lemmas.List.Elements.{All-push, All-pop}
use Rattle.lrpar_parse_trees.specs.declared.node.equal.Pair.{Pair}
use Rattle.lrpar_parse_trees.specs.Walks.{children}
use Rattle.lrpar_parse_trees.proofs.PairLemmas.{IsEven, later_nodes, later_others, later_nodes_push, later_others_push, rests_even}
use Rattle.lrpar_parse_trees.proofs.WeightLemmas.{weights_fall, weights_skip, weights_turn}
use Rattle.lrpar_parse_trees.proofs.WalkLemmas.{children_even, nodes_eq_enter, nodes_eq_skip, weights_entered}
use Rattle.lrpar_parse_trees.proofs.node.equal.are_equal.Goals as goal

pub returns-then-not-is_like : goal.returns-then-not-is_like
returns-then-not-is_like g c =
    let entered = nodes_eq_enter g.LexemeT.PartialEq.eq g.StorageT.PartialEq.eq c.in-Some-Some.node.now c.in-Some-Some.other.now false
    c.in-Some-Some.rest.now c.in-Some-Some.other_rest.now c.loop-node.nodes.now c.loop-node.others.now (later_nodes c.loop-node.left.items) (later_others c.loop-node.left.items)
    c.in-Some-Some.ensures.cases.0 c.in-Some-Some.ensures'.cases.0 c.if-not-is_like.ensures.like in
    sym entered ∙ c.loop-node.invariant.same

pub equal_by_calls-requires : goal.equal_by_calls-requires
equal_by_calls-requires g c =
    let like = children_even g.LexemeT.PartialEq.eq g.StorageT.PartialEq.eq c.in-Some-Some.node.now c.in-Some-Some.other.now (sym c.if-not-is_like.ensures.like) in
    record { even = ap length c.children.ensures ∙ like ∙ sym (ap length c.children-in-Err.ensures) }

pub returns-then-not-equal_by_calls : goal.returns-then-not-equal_by_calls
returns-then-not-equal_by_calls g c =
    sym (nodes_eq_skip g.LexemeT.PartialEq.eq g.StorageT.PartialEq.eq false (later_nodes c.loop-node.left.items) (later_others c.loop-node.left.items)
    c.in-Some-Some.ensures.cases.0 c.in-Some-Some.ensures'.cases.0 c.if-not-is_like.ensures.like c.children.ensures c.children-in-Err.ensures
    c.if-not-equal_by_calls.ensures)
    ∙ c.loop-node.invariant.same

pub loop-node-smaller-in-Ok : goal.loop-node-smaller-in-Ok
loop-node-smaller-in-Ok g c =
    let node = c.in-Some-Some.node.now in
    let rest = c.in-Some-Some.rest.now in
    let left = c.loop-node.left.items in
    let after : Pair g.row.LexemeT.Denot g.row.StorageT.Denot = record { nodes = c.in-Some-Some.rest; others = c.in-Some-Some.other_rest } in
    weights_fall c.children-nodes.result.now (children node) rest (later_nodes left) (later_nodes c.push.new.self.items) _ _ _
    (weights_entered node rest c.loop-node.nodes.now (later_nodes left) c.in-Some-Some.ensures.cases.0) c.children-nodes.ensures
    (ap later_nodes c.in-Ok.ensures.items ∙ later_nodes_push left after) (ap length c.in-Ok.ensures.items ∙ length_push left after)

pub loop-node-preserved-in-Ok : goal.loop-node-preserved-in-Ok
loop-node-preserved-in-Ok g c =
    let eq = g.LexemeT.PartialEq.eq in
    let same = g.StorageT.PartialEq.eq in
    let node = c.in-Some-Some.node.now in
    let other = c.in-Some-Some.other.now in
    let entered = nodes_eq_enter eq same node other true
    c.in-Some-Some.rest.now c.in-Some-Some.other_rest.now c.loop-node.nodes.now c.loop-node.others.now (later_nodes c.loop-node.left.items) (later_others c.loop-node.left.items)
    c.in-Some-Some.ensures.cases.0 c.in-Some-Some.ensures'.cases.0 c.if-not-is_like.ensures.like in
    let after : Pair g.row.LexemeT.Denot g.row.StorageT.Denot = record { nodes = c.in-Some-Some.rest; others = c.in-Some-Some.other_rest } in
    record {
      same = rw (c.in-Ok.ensures.items, later_nodes_push, later_others_push, c.children-nodes.ensures, c.children-others.ensures) (sym entered ∙ c.loop-node.invariant.same);
      even = ap length c.children-nodes.ensures ∙ children_even eq same node other (sym c.if-not-is_like.ensures.like) ∙ sym (ap length c.children-others.ensures);
      pairs = rw c.in-Ok.ensures.items (All-push IsEven c.loop-node.left.items after c.loop-node.invariant.pairs (rests_even c.loop-node.nodes.now c.loop-node.others.now c.in-Some-Some.rest.now c.in-Some-Some.other_rest.now c.in-Some-Some.ensures.cases.1 c.in-Some-Some.ensures'.cases.1 c.loop-node.invariant.even));
    }

pub loop-node-smaller-else-not-equal_by_calls : goal.loop-node-smaller-else-not-equal_by_calls
loop-node-smaller-else-not-equal_by_calls g c =
    let rest = c.in-Some-Some.rest.now in
    let later = later_nodes c.loop-node.left.items in
    weights_skip _ rest later (later_nodes c.push.new.self.items) _ _ _
    (weights_entered c.in-Some-Some.node.now rest c.loop-node.nodes.now later c.in-Some-Some.ensures.cases.0)
    (ap later_nodes c.in-Err.ensures.items) (ap length c.in-Err.ensures.items)

pub loop-node-preserved-else-not-equal_by_calls : goal.loop-node-preserved-else-not-equal_by_calls
loop-node-preserved-else-not-equal_by_calls g c =
    let skipped = nodes_eq_skip g.LexemeT.PartialEq.eq g.StorageT.PartialEq.eq true (later_nodes c.loop-node.left.items) (later_others c.loop-node.left.items)
    c.in-Some-Some.ensures.cases.0 c.in-Some-Some.ensures'.cases.0 c.if-not-is_like.ensures.like c.children.ensures c.children-in-Err.ensures
    c.if-not-equal_by_calls.ensures in
    record {
      same = rw c.in-Err.ensures.items (sym skipped ∙ c.loop-node.invariant.same);
      even = rests_even c.loop-node.nodes.now c.loop-node.others.now c.in-Some-Some.rest.now c.in-Some-Some.other_rest.now c.in-Some-Some.ensures.cases.1 c.in-Some-Some.ensures'.cases.1 c.loop-node.invariant.even;
      pairs = rw c.in-Err.ensures.items c.loop-node.invariant.pairs;
    }

pub loop-node-smaller : goal.loop-node-smaller
loop-node-smaller g c =
    let left = c.pop.new.self.items in
    weights_turn c.loop-node.nodes.now c.in-Some.pair.nodes.now (later_nodes left) (later_nodes c.loop-node.left.items) _ _
    (nil_from_length c.loop-node.nodes.now c.in-None-None.ensures.cases) (ap later_nodes c.in-Some.ensures.items ∙ later_nodes_push left c.in-Some.pair)
    (ap length c.in-Some.ensures.items ∙ length_push left c.in-Some.pair)

pub loop-node-preserved : goal.loop-node-preserved
loop-node-preserved g c =
    let none = nil_from_length c.loop-node.nodes.now c.in-None-None.ensures.cases in
    let none' = nil_from_length c.loop-node.others.now c.in-None-None.ensures'.cases in
    let kept = All-pop IsEven c.loop-node.left.items c.pop.new.self.items (Some c.in-Some.pair) c.in-Some.ensures.items c.loop-node.invariant.pairs in
    record {
      same = rw (none, none', c.in-Some.ensures.items, later_nodes_push, later_others_push) at c.loop-node.invariant.same;
      even = kept.1;
      pairs = kept.0;
    }
