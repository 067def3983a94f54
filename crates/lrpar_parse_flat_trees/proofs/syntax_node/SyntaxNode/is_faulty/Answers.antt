use Rattle.std.proofs.Common.{◌∙◌}
use Rattle.lrpar_parse_flat_trees.proofs.NodeLemmas.{own_faulty}
use Rattle.lrpar_parse_flat_trees.proofs.syntax_node.SyntaxNode.is_faulty.Goals as goal

pub returns : goal.returns
returns g c = c.is_faulty.ensures ∙ own_faulty c.args.self.now c.own.result.now c.own.ensures
