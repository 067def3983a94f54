use Rattle.std.proofs.Common.{refl}
use Rattle.lrpar_table_rows.specs.Table.{action_of, goto_of}
use Rattle.lrpar_table_rows.proofs.laws.sum_table_acts.Goals as goal

pub returns : goal.returns
unfolding action_of goto_of
returns c = record {
  states = refl;
  entries = refl;
  actions = record { shifts = refl; reduces = refl; accepts = refl; fails = refl; no_state = refl; no_token = refl };
  gotos = record { goes = refl; goes_nowhere = refl; no_rule = refl };
}
