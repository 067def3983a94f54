use Rattle.std.proofs.Common.{IsPermutation, take}
use Rattle.lrpar_conflict_examples.specs.Conflicts.{unmet_in}
use Rattle.lrpar_conflict_examples.specs.ExamplesFit.{ExamplesFit}
use Rattle.lrpar_conflict_examples.specs.Merged.{AreSorted, conflicts_of}
use Rattle.lrpar_conflict_examples.proofs.merged.conflict_examples_by.Given as goal

-- the conflicts so far are dealt out, each to its list
abbrev pub invariant-loop-conflict : goal.invariant-loop-conflict
invariant-loop-conflict g l =
    let index = g.StorageT.StorageIndex.index in
    ExamplesFit l.grm l.found.examples.items × IsPermutation (unmet_in index (take l.conflict-index l.conflict-items)) (conflicts_of index l.found)
    × AreSorted index l.grm l.canonical.sgraph (record { precedences = l.precedences; canonical = l.canonical.stable; merged = l.stable }) l.bound l.found
