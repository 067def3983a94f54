use Rattle.lrpar_table_merge.proofs.PathCoreLemmas as lemmas
use Rattle.lrpar_table_merge.proofs.laws.merged_shift_conflicts_are_canonical.Goals as goal

pub returns : goal.returns
returns c = lemmas.merged_shift_conflicts_are_canonical
