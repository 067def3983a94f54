use Rattle.std.proofs.Common.{◌∙◌}
use Rattle.lrpar_parse_flat_trees.proofs.NodeLemmas.{own_nodes}
use Rattle.lrpar_parse_flat_trees.proofs.syntax_node.SyntaxNode.len.Goals as goal

pub returns : goal.returns
returns g c = c.count.ensures ∙ own_nodes c.args.self.now c.own.result.now c.own.ensures
