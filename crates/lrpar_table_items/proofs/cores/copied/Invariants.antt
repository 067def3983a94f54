use Rattle.std.proofs.Common.{◌≡◌, map, take}
use Rattle.lrpar_table_items.specs.Cores.{core_set}
use Rattle.lrpar_table_items.proofs.cores.copied.Given as goal

-- the cores so far
abbrev pub invariant-loop-core : goal.invariant-loop-core
invariant-loop-core g l =
    let index = g.StorageT.StorageIndex.index in map (core_set index) l.copy.items ≡ map (core_set index) (take l.core-index l.cores)
