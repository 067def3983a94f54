use Rattle.std.proofs.Common.{◌≡◌, ◌<◌, ◌+◌, None, length, ap, refl, sym, ◌∙◌, arith, eq-eqb}
use Rattle.lrpar_lexer.proofs.RuleTreeLemmas.{branch_grows, branch_is_there, branches_read, grows_both, next_pushed, node_grows, pushed_len}
use Rattle.lrpar_lexer.specs.RuleTrees.{branch_to, next_of}
use Rattle.lrpar_lexer.proofs.rule_tree.next_node.Goals as goal

pub returns : goal.returns
returns c =
    let old = c.args.nodes.now.items in
    let mid = c.push_node.new.nodes.items in
    let new = c.push_branch.new.nodes.items in
    let len : length mid ≡ length old + 1 = pushed_len old mid c.in_ok-push_node.ensures in
    let within : c.len-next.result < length mid = omega (arith, len, c.len-next.ensures) in
    let none : next_of old c.args.node c.args.byte ≡ None =
    ap (λ bs. branch_to bs c.args.byte) (branches_read old c.args.node c.index.result.now (omega (arith, c.requires.within)) c.index.ensures ∙ sym c.deref.ensures.value)
    ∙ sym c.branch_to.ensures ∙ c.in_default.is in
    record {
      grows = grows_both old mid new (node_grows old mid c.in_ok-push_node.ensures)
          (branch_grows mid new c.args.node (record { byte = c.args.byte; node = c.len-next.result }) within c.in_ok-push_branch.ensures);
      leads = branch_is_there mid new c.args.node (record { byte = c.args.byte; node = c.len-next.result }) c.args.byte (omega (arith, len, c.requires.within))
          (eq-eqb c.args.byte c.args.byte refl) (next_pushed old mid c.args.node c.args.byte c.in_ok-push_node.ensures ∙ none) c.in_ok-push_branch.ensures;
    }
