use Rattle.std.proofs.Common.{◌<◌, ℕ, map}
use Rattle.lrpar_table_items.specs.Cores.{core_set}
use Rattle.lrpar_table_merge.specs.Compatible.{ArePairCompatible}
use Rattle.lrpar_table_merge.proofs.compatible.are_weakly_compatible.Given as goal

-- each core so far is compatible with each before it
abbrev pub invariant-loop-place : goal.invariant-loop-place
invariant-loop-place g l =
    let index = g.StorageT.StorageIndex.index in
    (i : ℕ) → i < l.place → (j : ℕ) → j < i → ArePairCompatible (map (core_set index) l.kernel) (map (core_set index) l.other) i j
