use Rattle.std.proofs.Common.{◌∙◌}
use Rattle.lrpar_parse_flat_trees.proofs.NodeLemmas.{own_lies}
use Rattle.lrpar_parse_flat_trees.proofs.syntax_node.SyntaxNode.span.Goals as goal

pub returns : goal.returns
returns g c = c.span.ensures ∙ own_lies c.args.self.now c.own.result.now c.own.ensures
