use Rattle.lrpar_table_merge.proofs.CanonicalLemmas as sets
use Rattle.lrpar_table_merge.proofs.laws.canonical_sets_are_merged.Goals as goal

pub returns : goal.returns
returns c = sets.canonical_sets_are_merged
