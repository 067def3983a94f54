use Rattle.std.proofs.Common.{◌≡◌}
use Rattle.lrpar_conflict_derivations.specs.Search.{StartsAt, tried_in}
use Rattle.lrpar_conflict_derivations.proofs.unifying.run.Given as goal

-- the search from the conflict's state has taken as many turns
abbrev pub invariant-loop : goal.invariant-loop
invariant-loop g l =
    let index = g.StorageT.StorageIndex.index in StartsAt index (index l.conflict.state.0) l.search.paths × (tried_in l.search ≡ l.counter)
