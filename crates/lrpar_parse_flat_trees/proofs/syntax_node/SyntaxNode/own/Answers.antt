use Rattle.std.proofs.Common.{◌∙◌, sym}
use Rattle.lrpar_parse_flat_trees.proofs.NodeLemmas.{own_read}
use Rattle.lrpar_parse_flat_trees.proofs.syntax_node.SyntaxNode.own.Goals as goal

pub returns : goal.returns
returns g c =
    rw (← c.self.view_is)
    (sym c.index-self-self.is ∙ own_read c.self.inside.nodes.now c.index-self-self.result c.self.invariant.0 c.self.invariant.1 c.index-self-self.is)
