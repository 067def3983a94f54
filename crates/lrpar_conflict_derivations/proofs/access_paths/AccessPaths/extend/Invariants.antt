use Rattle.lrpar_conflict_derivations.specs.Queue.{KeepsItems}
use Rattle.lrpar_conflict_derivations.specs.Search.{KeepsStart}
use Rattle.lrpar_conflict_derivations.proofs.access_paths.AccessPaths.extend.Given as goal

-- no end was tried so far, and the first one is the same
abbrev pub invariant-loop : goal.invariant-loop
invariant-loop g l = KeepsItems l.fn.self.queue l.self.queue × KeepsStart g.StorageT.StorageIndex.index l.fn.self l.self
