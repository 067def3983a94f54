use Rattle.lrpar_table_merge.proofs.MergedViableLemmas as lemmas
use Rattle.lrpar_table_merge.proofs.laws.merged_tables_by_precedences_are_viable.Goals as goal

pub returns : goal.returns
returns c = lemmas.merged_tables_by_precedences_are_viable
