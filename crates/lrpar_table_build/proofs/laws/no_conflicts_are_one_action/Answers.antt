use Rattle.lrpar_table_build.proofs.ConflictLemmas as conflicts
use Rattle.lrpar_table_build.proofs.laws.no_conflicts_are_one_action.Goals as goal

pub returns : goal.returns
returns c = conflicts.no_conflicts_are_one_action
