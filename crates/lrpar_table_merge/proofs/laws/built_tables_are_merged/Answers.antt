use Rattle.lrpar_table_merge.proofs.BuiltMergedLemmas as tables
use Rattle.lrpar_table_merge.proofs.laws.built_tables_are_merged.Goals as goal

pub returns : goal.returns
returns c = tables.built_tables_are_merged
