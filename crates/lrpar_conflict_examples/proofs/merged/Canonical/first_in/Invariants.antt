use Rattle.std.proofs.Common.{◌≡◌, None, take}
use Rattle.std.specs.List.{find}
use Rattle.lrpar_conflict_examples.specs.Conflicts.{unmet_in, unmet_of}
use Rattle.lrpar_conflict_examples.specs.Merged.{lies_by}
use Rattle.lrpar_conflict_examples.proofs.merged.Canonical.first_in.Given as goal

-- none of the conflicts so far lies in this one
abbrev pub invariant-loop-own : goal.invariant-loop-own
invariant-loop-own g l =
    let index = g.StorageT.StorageIndex.index in
    find (lies_by l.self (unmet_of index l.conflict)) (unmet_in index (take l.own-index l.own-items)) ≡ None
