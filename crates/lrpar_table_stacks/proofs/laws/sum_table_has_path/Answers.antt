use Rattle.std.proofs.Common.{refl}
use Rattle.lrpar_table_rows.specs.Table.{action_of, goto_of}
use Rattle.lrpar_table_stacks.proofs.laws.sum_table_has_path.Goals as goal

pub returns : goal.returns
unfolding action_of goto_of
returns c = record {
  path = (refl, (refl, (refl, (refl, tt))));
  other_rule = λ h. let other = h.1.0 in absurd (cc);
  too_few = λ h. h.1.1.1;
}
