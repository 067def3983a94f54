use Rattle.std.proofs.Common.{ap, Some, drop, get_or, refl, sym, take, arith}
use Rattle.std.proofs.lemmas.Result.{on_ok_weaker}
use Rattle.lrpar_lexer.proofs.RuleTreeLemmas.{grows_both, grows_same, rule_grows, text_meets, walk_grows, walk_next}
use Rattle.lrpar_lexer.proofs.rule_tree.add_text.Goals as goal

pub bytes-init : goal.bytes-init
bytes-init c = record {
  tree = c.requires.tree;
  grows = grows_same c.args.nodes.now.items;
  within = omega (arith, c.from-node.ensures, c.requires.tree.first, c.type_inv.text 0);
  walks = ap Some (sym c.from-node.ensures);
}

pub bytes-preserved : goal.bytes-preserved
bytes-preserved c =
    let text = c.args.text.now in
    let k = c.bytes.byte-index in
    let old = c.bytes.nodes.items in
    let new = c.next_node.new.nodes.items in
    let grows = c.in_ok-node.ensures.grows in
    record {
      tree = grows.tree c.bytes.invariant.tree;
      grows = grows_both c.args.nodes.now.items old new c.bytes.invariant.grows grows;
      within = omega (arith, (grows.tree c.bytes.invariant.tree).within c.bytes.node _ c.in_ok-node.node c.in_ok-node.ensures.leads);
      walks = walk_next new (get_or text 0 0) text k c.bytes.node _ c.in_ok-node.node c.bytes-test.true refl
          (walk_grows old new grows (get_or text 0 0) (take k (drop 1 text)) c.bytes.node c.bytes.invariant.walks) c.in_ok-node.ensures.leads;
    }

pub returns : goal.returns
returns c =
    let old = c.bytes.nodes.items in
    let new = c.push_rule.new.nodes.items in
    record {
      grows = on_ok_weaker c.push_rule.result
          (λ it. grows_both c.args.nodes.now.items old new c.bytes.invariant.grows (rule_grows old new c.bytes.node c.args.rule it)) c.push_rule.ensures;
      met = on_ok_weaker c.push_rule.result
          (λ it. text_meets old new c.args.text.now c.bytes.byte-index c.bytes.node c.args.rule c.bytes-test.false c.bytes.invariant.walks (omega (arith, c.bytes.invariant.within)) it)
          c.push_rule.ensures;
    }
