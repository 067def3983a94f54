use Rattle.lrpar_conflict_derivations.proofs.SearchLemmas.{start_pushed}
use Rattle.lrpar_conflict_derivations.proofs.access_paths.AccessPaths.add.Goals as goal

pub returns-in_err-add-clause-start : goal.returns-in_err-add-clause-start
returns-in_err-add-clause-start g c =
    start_pushed g.StorageT.StorageIndex.index c.args.self.now.ends.items _ _ c.in_ok-push.ensures.items

pub returns-in_ok-add-clause-start : goal.returns-in_ok-add-clause-start
returns-in_ok-add-clause-start g c =
    start_pushed g.StorageT.StorageIndex.index c.args.self.now.ends.items _ _ c.in_ok-push.ensures.items
