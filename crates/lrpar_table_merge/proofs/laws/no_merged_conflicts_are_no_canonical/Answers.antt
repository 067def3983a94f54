use Rattle.lrpar_table_merge.proofs.WithinLemmas as sets
use Rattle.lrpar_table_merge.proofs.laws.no_merged_conflicts_are_no_canonical.Goals as goal

pub returns : goal.returns
returns c = sets.no_merged_conflicts_are_no_canonical
