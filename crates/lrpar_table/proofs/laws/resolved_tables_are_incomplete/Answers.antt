use Rattle.lrpar_table.proofs.ResolvedLemmas as tables
use Rattle.lrpar_table.proofs.laws.resolved_tables_are_incomplete.Goals as goal

pub returns : goal.returns
returns c = tables.resolved_tables_are_incomplete
