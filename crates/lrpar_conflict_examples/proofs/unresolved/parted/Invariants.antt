use Rattle.std.proofs.Common.{◌≡◌, filter, take}
use Rattle.lrpar_conflict_examples.specs.Conflicts.{unmet_in}
use Rattle.lrpar_conflict_examples.specs.Met.{is_unresolved, marked_ones, other_ones}
use Rattle.lrpar_conflict_examples.proofs.unresolved.parted.Given as goal

-- those of the conflicts so far
abbrev pub invariant-loop-conflict : goal.invariant-loop-conflict
invariant-loop-conflict g l =
    let index = g.StorageT.StorageIndex.index in
    let left = filter (is_unresolved l.precedences) (unmet_in index (take l.conflict-index l.conflict-items)) in
    (unmet_in index l.met.items ≡ marked_ones l.marks left) × (unmet_in index l.unmet.items ≡ other_ones l.marks left)
