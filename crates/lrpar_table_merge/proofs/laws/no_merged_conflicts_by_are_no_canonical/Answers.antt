use Rattle.lrpar_table_merge.proofs.WithinLemmas as lemmas
use Rattle.lrpar_table_merge.proofs.laws.no_merged_conflicts_by_are_no_canonical.Goals as goal

pub returns : goal.returns
returns c = lemmas.no_merged_conflicts_by_are_no_canonical
