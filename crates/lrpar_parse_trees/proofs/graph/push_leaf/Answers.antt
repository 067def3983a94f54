use Rattle.std.proofs.Common.{◌++◌, codes, string_bytes}
use Rattle.std.specs.Fmt.{decimal}
use Rattle.lrpar_parse_trees.specs.Graph.{leaf_label, leaf_shape}
use Rattle.lrpar_parse_trees.proofs.NestedLemmas.{added_thrice}
use Rattle.lrpar_parse_trees.proofs.graph.push_leaf.Goals as goal

pub returns : goal.returns
returns c =
    added_thrice (string_bytes c.args.line.now) (codes "  n" ++ decimal c.args.number ++ codes " [label=\"")
    (leaf_label c.args.leaf.name.now c.args.leaf.text.now c.args.leaf.is_faulty) (leaf_shape c.args.leaf.is_faulty) _ _ _
    c.in_ok-push_front.ensures c.in_ok-push_leaf_label.ensures (rw c.leaf_shape.ensures at c.in_ok-push_str.ensures.bytes)
