use Rattle.lrpar_parse_cpctplus.proofs.AnyFormLemmas.{cost_no_less, have_repairs}
use Rattle.lrpar_parse_cpctplus.proofs.laws.no_sequence_is_cheaper_than_repairs.Goals as goal

pub returns : goal.returns
returns g c = record { repairs = have_repairs; least = cost_no_less; facts_repairs = have_repairs; facts_least = cost_no_less }
