use Rattle.std.proofs.Common.{◌≡◌, ◌∷◌, ◌++◌, [], arith, rules}
use Rattle.lrpar_grammar_places.specs.Span.{nowhere}
use Rattle.lrpar_parse_flat_trees.proofs.FlatLemmas.{flat_length}
use Rattle.lrpar_parse_flat_trees.proofs.GrowingLemmas.{nodes_some}
use Rattle.lrpar_parse_flat_trees.proofs.TextLemmas.{level_fits, writing_ends, writing_goes_on}
use Rattle.lrpar_parse_flat_trees.proofs.syntax_tree.SyntaxTree.write.Goals as goal

pub overflow_add-level : goal.overflow_add-level
overflow_add-level g c =
    let popped : c.nodes.left.items ≡ c.pop.new.self.items ++ c.in-Some.field-0 ∷ [] = search rules in
    let e = c.in-Some.field-0 in
    let fits = level_fits c.args.grm.now c.args.input.now g.W.Write.contents c.args.self.now c.args.out.now c.nodes.out c.pop.new.self.items c.nodes.left.items e popped c.nodes.invariant in
    let some = nodes_some e.node.tree in
    let few = flat_length nowhere c.args.self.now in
    let len = c.len-lemma.ensures in
    let bound = c.len-lemma.type_inv in
    omega (arith, fits, some, few, len, bound)

pub nodes-smaller : goal.nodes-smaller
nodes-smaller g c =
    let popped : c.nodes.left.items ≡ c.pop.new.self.items ++ c.in-Some.field-0 ∷ [] = search rules in
    writing_ends c.args.grm.now c.args.input.now g.W.Write.contents c.args.self.now c.args.out.now c.pop.new.self.items c.nodes.left.items c.push_children.new.left.items c.in-Some.field-0 popped
    c.in_ok-push_children.ensures

pub nodes-preserved : goal.nodes-preserved
nodes-preserved g c =
    let popped : c.nodes.left.items ≡ c.pop.new.self.items ++ c.in-Some.field-0 ∷ [] = search rules in
    writing_goes_on c.args.grm.now c.args.input.now g.W.Write.contents c.args.self.now c.args.out.now c.nodes.out c.write_line.new.out c.pop.new.self.items c.nodes.left.items c.push_children.new.left.items
    c.in-Some.field-0 popped c.nodes.invariant c.in_ok-write_line.ensures c.in_ok-push_children.ensures
