use Rattle.lrpar_table_build.proofs.SafeLemmas as tables
use Rattle.lrpar_table_build.proofs.laws.tables_by_precedence_are_safe.Goals as goal

pub returns : goal.returns
returns c = tables.tables_by_precedence_are_safe
