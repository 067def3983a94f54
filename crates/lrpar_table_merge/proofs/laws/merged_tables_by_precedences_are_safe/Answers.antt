use Rattle.lrpar_table_merge.proofs.MergedSafeLemmas as lemmas
use Rattle.lrpar_table_merge.proofs.laws.merged_tables_by_precedences_are_safe.Goals as goal

pub returns : goal.returns
returns c = lemmas.merged_tables_by_precedences_are_safe
