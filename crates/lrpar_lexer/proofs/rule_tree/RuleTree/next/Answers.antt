use Rattle.std.proofs.Common.{◌<◌, ap, sym, ◌∙◌, arith, length}
use Rattle.lrpar_lexer.proofs.RuleTreeLemmas.{branches_read, if_some}
use Rattle.lrpar_lexer.specs.RuleTrees.{branch_to}
use Rattle.lrpar_lexer.proofs.rule_tree.RuleTree.next.Goals as goal

pub returns-clause-within : goal.returns-clause-within
returns-clause-within c =
    let nodes = c.args.self.now.nodes.items in
    if_some c.branch_to.result (λ next is.
    let below : next < length nodes = c.args.self.now.whole.within c.args.node c.args.byte next
    (ap (λ bs. branch_to bs c.args.byte) (branches_read nodes c.args.node c.index.result.now (omega (arith, c.requires)) c.index.ensures ∙ sym c.deref.ensures.value)
    ∙ sym c.branch_to.ensures ∙ is) in
    omega (arith, below))
