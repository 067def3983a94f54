use Rattle.lrpar_table_merge.proofs.MergedViableLemmas as tables
use Rattle.lrpar_table_merge.proofs.laws.merged_tables_are_viable.Goals as goal

pub returns : goal.returns
returns c = tables.merged_tables_are_viable
