use Rattle.lrpar_parse_flat_trees.proofs.NodeLemmas.{own_kind}
use Rattle.lrpar_parse_flat_trees.proofs.syntax_node.SyntaxNode.kind.Goals as goal

pub returns : goal.returns
returns g c = own_kind g.StorageT.StorageIndex.index c.args.self.now.before c.args.self.now.tree c.own.result.now c.kind.result c.own.ensures c.kind.ensures
