use Rattle.std.proofs.Common.{reverse}
use Rattle.lrpar_parse_flat_trees.proofs.TextLemmas.{Writing, left_nodes}
use Rattle.lrpar_parse_flat_trees.proofs.syntax_tree.SyntaxTree.write.Given as goal

abbrev pub invariant-nodes : goal.invariant-nodes
invariant-nodes g l = Writing l.grm l.input g.W.Write.contents l.self l.fn.out l.out l.left.items

abbrev pub decreases-nodes : goal.decreases-nodes
decreases-nodes g l = left_nodes (reverse l.left.items)
