use Rattle.std.proofs.Common.{◌∙◌}
use Rattle.lrpar_parse_trees.proofs.WalkLemmas.{alike_even, alike_nodes, leaf_alike, node_unlike}
use Rattle.lrpar_parse_trees.proofs.node.equal.NodePartialEq.eq.Goals as goal

pub returns-then-not-is_like : goal.returns-then-not-is_like
returns-then-not-is_like g c = node_unlike g.LexemeT.PartialEq.eq g.StorageT.PartialEq.eq c.args.self.now c.args.other.now c.if-not-is_like.ensures.like

pub returns-in-Term : goal.returns-in-Term
returns-in-Term g c =
    leaf_alike g.LexemeT.PartialEq.eq g.StorageT.PartialEq.eq c.args.self.now c.args.other.now c.in-Term.lexeme c.in-Term.is c.if-not-is_like.ensures.like

pub are_equal-requires-clause-even : goal.are_equal-requires-clause-even
are_equal-requires-clause-even g c =
    alike_even g.LexemeT.PartialEq.eq g.StorageT.PartialEq.eq c.args.self.now c.args.other.now c.in-Nonterm.ridx c.in-Nonterm.nodes c.deref.result.now
    c.children.result.now c.in-Nonterm.is c.if-not-is_like.ensures.like c.deref.ensures.value c.children.ensures

pub returns-in-Nonterm : goal.returns-in-Nonterm
returns-in-Nonterm g c =
    c.are_equal.ensures
    ∙ alike_nodes g.LexemeT.PartialEq.eq g.StorageT.PartialEq.eq c.args.self.now c.args.other.now c.in-Nonterm.ridx c.in-Nonterm.nodes c.deref.result.now
    c.children.result.now c.in-Nonterm.is c.if-not-is_like.ensures.like c.deref.ensures.value c.children.ensures
