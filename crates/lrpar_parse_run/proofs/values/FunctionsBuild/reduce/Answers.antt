use Rattle.std.proofs.Common.{refl, rules}
use Rattle.lrpar_parse_run.specs.declared.values.AStackType.TheVariants.{ActionType}
use Rattle.lrpar_parse_run.proofs.values.FunctionsBuild.reduce.Goals as goal

pub returns : goal.returns
returns g c = record {
  entry = ActionType c.fnonterm-value.result;
  made = record {
    values = c.in_ok-values.values.items;
    given = c.in_ok-values.ensures.values;
    value = c.fnonterm-value.result;
    made = (c.prod_to_rule-ridx.result, c.in_ok-values.values, c.prod_to_rule-ridx.ensures.rule, refl, c.fnonterm-value.ensures);
    is = refl;
  };
  suit = tt;
  of_entries = search rules;
}
