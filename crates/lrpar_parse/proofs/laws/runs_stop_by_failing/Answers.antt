use Rattle.lrpar_table_stacks.proofs.RunLemmas.{runs_stop_by_failing}
use Rattle.lrpar_parse.proofs.laws.runs_stop_by_failing.Goals as goal

pub returns : goal.returns
returns g c = record { fails = runs_stop_by_failing; facts_fail = runs_stop_by_failing }
