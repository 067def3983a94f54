use Rattle.std.proofs.Common.{arith}
use Rattle.lrpar_lexer.proofs.RuleTreeLemmas.{grows_both, grows_same, starts_more}
use Rattle.lrpar_lexer.proofs.rule_tree.add_starts.Goals as goal

pub bytes-init : goal.bytes-init
bytes-init c = record {
  tree = c.requires;
  grows = grows_same c.args.nodes.now.items;
  met = λ byte text below. absurd (omega (arith, below));
}

pub bytes-preserved : goal.bytes-preserved
bytes-preserved c =
    let old = c.bytes.nodes.items in
    let new = c.add_start.new.nodes.items in
    let grows = c.in_ok-add_start.ensures.grows in
    record {
      tree = grows.tree c.bytes.invariant.tree;
      grows = grows_both c.args.nodes.now.items old new c.bytes.invariant.grows grows;
      met = starts_more old new c.args.program.now c.args.rule c.bytes.byte grows c.bytes.invariant.met c.in_ok-add_start.ensures.met;
    }

pub returns : goal.returns
returns c = record {
  grows = c.bytes.invariant.grows;
  met = λ byte text below. c.bytes.invariant.met byte text (omega (arith, below, c.bytes-test.false));
}
