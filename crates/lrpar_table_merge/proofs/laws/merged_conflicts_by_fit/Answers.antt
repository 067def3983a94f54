use Rattle.lrpar_table_merge.proofs.MergedFitLemmas as lemmas
use Rattle.lrpar_table_merge.proofs.laws.merged_conflicts_by_fit.Goals as goal

pub returns : goal.returns
returns c = lemmas.merged_conflicts_by_fit
