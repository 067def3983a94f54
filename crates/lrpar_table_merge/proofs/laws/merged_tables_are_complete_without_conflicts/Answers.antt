use Rattle.lrpar_table_merge.proofs.MergedCompleteLemmas as tables
use Rattle.lrpar_table_merge.proofs.laws.merged_tables_are_complete_without_conflicts.Goals as goal

pub returns : goal.returns
returns c = tables.merged_tables_are_complete_without_conflicts
