use Rattle.std.proofs.Common.{sym, ◌∙◌}
use Rattle.lrpar_parse_trees.proofs.FitsLemmas.{entered_falls, turned_falls}
use Rattle.lrpar_parse_trees.proofs.WalkLemmas.{children_nonterm}
use Rattle.lrpar_parse_trees.proofs.node.shown.write_lines_of.Goals as goal

pub loop-node-smaller-in-Ok : goal.loop-node-smaller-in-Ok
loop-node-smaller-in-Ok g c =
    entered_falls c.loop-node.left.items c.push.new.self.items c.in-Some.rest c.in-Some.node.now c.loop-node.nodes.now c.deref-nodes.result.now c.in-Some.ensures.cases.0
    c.in-Ok.ensures.items (c.deref-nodes.ensures.value ∙ sym (children_nonterm c.in-Some.node.now c.in-Nonterm.ridx c.in-Nonterm.below c.in-Nonterm.is))

pub loop-node-smaller : goal.loop-node-smaller
loop-node-smaller g c =
    turned_falls c.pop.new.self.items c.loop-node.left.items c.in-Some-pop.rest c.loop-node.nodes.now c.in-None.ensures.cases c.in-Some-pop.ensures.items
