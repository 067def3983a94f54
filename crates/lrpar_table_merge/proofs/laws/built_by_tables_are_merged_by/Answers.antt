use Rattle.lrpar_table_merge.proofs.BuiltMergedLemmas as lemmas
use Rattle.lrpar_table_merge.proofs.laws.built_by_tables_are_merged_by.Goals as goal

pub returns : goal.returns
returns c = lemmas.built_by_tables_are_merged_by
