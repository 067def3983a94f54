use Rattle.lrpar_table_pops.proofs.PopLemmas.{pops_are_completions}
use Rattle.lrpar_table_pops.proofs.laws.pops_are_completions.Goals as goal

pub returns : goal.returns
returns c = pops_are_completions
