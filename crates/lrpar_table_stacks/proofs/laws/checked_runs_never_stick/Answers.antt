use Rattle.lrpar_table_stacks.proofs.PathLemmas as paths
use Rattle.lrpar_table_stacks.proofs.laws.checked_runs_never_stick.Goals as goal

pub returns : goal.returns
returns c = paths.checked_runs_never_stick
