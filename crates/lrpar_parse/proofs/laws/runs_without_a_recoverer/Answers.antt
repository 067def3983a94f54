use Rattle.lrpar_parse.proofs.RepairRunLemmas.{runs_without_repairs}
use Rattle.lrpar_parse.proofs.laws.runs_without_a_recoverer.Goals as goal

pub returns : goal.returns
returns g c = record { runs = runs_without_repairs; facts_run = runs_without_repairs }
