use Rattle.lrpar_table_stacks.proofs.RunLemmas.{runs_go_on_or_end}
use Rattle.lrpar_parse.proofs.laws.runs_go_on_or_end.Goals as goal

pub returns : goal.returns
returns g c = record { goes = runs_go_on_or_end; facts_go = runs_go_on_or_end }
