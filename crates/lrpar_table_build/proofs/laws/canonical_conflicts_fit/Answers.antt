use Rattle.lrpar_table_build.proofs.ConflictLemmas as conflicts
use Rattle.lrpar_table_build.proofs.laws.canonical_conflicts_fit.Goals as goal

pub returns : goal.returns
returns c = conflicts.canonical_conflicts_fit
