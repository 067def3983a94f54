use Rattle.lrpar_table_merge.proofs.MergedFitLemmas as tables
use Rattle.lrpar_table_merge.proofs.laws.merged_conflicts_fit.Goals as goal

pub returns : goal.returns
returns c = tables.merged_conflicts_fit
