use Rattle.lrpar_table.proofs.CompleteLemmas.{built_tables_are_complete_without_conflicts}
use Rattle.lrpar_table.proofs.laws.built_tables_are_complete_without_conflicts.Goals as goal

pub returns : goal.returns
returns c = built_tables_are_complete_without_conflicts
