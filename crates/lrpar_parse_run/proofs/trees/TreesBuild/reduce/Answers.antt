use Rattle.std.proofs.Common.{refl, rules}
use Rattle.lrpar_parse_trees.specs.declared.node.Node.TheVariants.{Nonterm}
use Rattle.lrpar_parse_run.proofs.trees.TreesBuild.reduce.Goals as goal

pub returns : goal.returns
returns g c = record {
  entry = Nonterm c.prod_to_rule-ridx.result c.in_ok-nodes.nodes;
  made = record {
    ridx = c.prod_to_rule-ridx.result;
    children = c.in_ok-nodes.nodes;
    rule = c.prod_to_rule-ridx.ensures.rule;
    children_are = search rules;
    is = refl;
  };
  suit = tt;
  of_entries = search rules;
}
