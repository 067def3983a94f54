use Rattle.std.proofs.Common.{sym, ◌∙◌}
use Rattle.std.proofs.lemmas.Result.{IfOk-weaker}
use Rattle.lrpar_parse_trees.proofs.GrowingLemmas.{walk_rule}
use Rattle.lrpar_parse_trees.proofs.node.Node.clone.Goals as goal

pub returns-in-Nonterm : goal.returns-in-Nonterm
returns-in-Nonterm g c = record {
  equal = IfOk-weaker c.copy_nodes.result _ _
      (λ node is. is ∙ rw c.deref.ensures.value (sym (walk_rule c.args.self.now c.in-Nonterm.ridx c.in-Nonterm.nodes c.in-Nonterm.is)))
      c.copy_nodes.ensures;
}
