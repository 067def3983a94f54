use Rattle.lrpar_table_merge.proofs.MergedByNoneLemmas as lemmas
use Rattle.lrpar_table_merge.proofs.laws.merged_by_none_is_merged.Goals as goal

pub returns : goal.returns
returns c = lemmas.merged_by_none_is_merged
