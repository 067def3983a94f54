use Rattle.std.proofs.Common.{map, subst}
use Rattle.std.proofs.lemmas.List.{take_all}
use Rattle.std.proofs.lemmas.Option.{none-some}
use Rattle.lrpar_lexer.specs.Rules.{anchored_of}
use Rattle.lrpar_lexer.specs.RuleTrees.{AreMet}
use Rattle.lrpar_lexer.proofs.RuleTreeLemmas.{are_met_more}
use Rattle.lrpar_lexer.proofs.rule_tree.RuleTree.new.Goals as goal

pub rules-init : goal.rules-init
rules-init g c = record { tree = c.in_ok-nodes.ensures; met = λ rule program is. absurd (none-some program is) }

pub rules-preserved : goal.rules-preserved
rules-preserved g c = record {
  tree = c.in_ok-add.ensures.grows.tree c.rules.invariant.tree;
  met = are_met_more c.rules.nodes.items c.add.new.nodes.items c.args.rules.now c.rules.index c.index-rules-index.result c.rules-test.true
      c.in_ok-add.ensures.grows c.rules.invariant.met c.in_ok-add.ensures.met;
}

pub returns : goal.returns
returns g c =
    subst (λ rs. AreMet c.rules.nodes.items (map anchored_of rs)) (take_all c.rules.index c.args.rules.now c.rules-test.false) c.rules.invariant.met
