use Rattle.lrpar_table_build.proofs.SafeLemmas as tables
use Rattle.lrpar_table_build.proofs.laws.canonical_tables_are_safe.Goals as goal

pub returns : goal.returns
returns c = tables.canonical_tables_are_safe
