use Rattle.lrpar_table_build.proofs.KeptApartLemmas as tables
use Rattle.lrpar_table_build.proofs.laws.precedences_keep_apart.Goals as goal

pub returns : goal.returns
returns c = tables.precedences_keep_apart
