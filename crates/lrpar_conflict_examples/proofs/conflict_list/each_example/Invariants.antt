use Rattle.std.proofs.Common.{take}
use Rattle.lrpar_conflict_examples.specs.Conflicts.{AreExamplesOf, unmet_in}
use Rattle.lrpar_conflict_examples.proofs.conflict_list.each_example.Given as goal

-- a counterexample of each conflict so far
abbrev pub invariant-loop-conflict : goal.invariant-loop-conflict
invariant-loop-conflict g l =
    AreExamplesOf l.grm l.sgraph l.bound (unmet_in g.StorageT.StorageIndex.index (take l.conflict-index l.conflicts)) l.examples.items
