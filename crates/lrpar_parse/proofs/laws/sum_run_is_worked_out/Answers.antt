use Rattle.std.proofs.Common.{refl}
use Rattle.lrpar_parse.proofs.SumLemmas.{sum_runs_through}
use Rattle.lrpar_parse.proofs.laws.sum_run_is_worked_out.Goals as goal

pub returns : goal.returns
returns c = record { run = sum_runs_through; bound = refl }
