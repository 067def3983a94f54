use Rattle.std.proofs.Common.{◌<◌, ℕ, map}
use Rattle.lrpar_table_items.specs.Cores.{core_set}
use Rattle.lrpar_table_merge.specs.Compatible.{ArePairCompatible}
use Rattle.lrpar_table_merge.proofs.compatible.is_compatible_with_earlier.Given as goal

-- it is compatible with the cores so far
abbrev pub invariant-loop-earlier : goal.invariant-loop-earlier
invariant-loop-earlier g l =
    let index = g.StorageT.StorageIndex.index in
    (j : ℕ) → j < l.earlier → ArePairCompatible (map (core_set index) l.kernel) (map (core_set index) l.other) l.place j
