use Rattle.std.proofs.Common.{◌≡◌, map, take}
use Rattle.lrpar_table_items.specs.Cores.{core_set}
use Rattle.lrpar_table_items.proofs.cores.are_same.Given as goal

-- the cores so far are the same
abbrev pub invariant-loop-place : goal.invariant-loop-place
invariant-loop-place g l =
    let index = g.StorageT.StorageIndex.index in map (core_set index) (take l.place l.cores) ≡ map (core_set index) (take l.place l.others)
