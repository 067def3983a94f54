use Rattle.lrpar_conflict_derivations.proofs.SearchLemmas.{start_first}
use Rattle.lrpar_conflict_derivations.proofs.access_paths.AccessPaths.new.Goals as goal

pub returns-clause-start : goal.returns-clause-start
returns-clause-start g c = start_first g.StorageT.StorageIndex.index _ _ _ c.new-ends.ensures.items c.in_ok-push.ensures.items
