use Rattle.std.proofs.Common.{◌↔◌, ℕ, map, take}
use Rattle.lrpar_table_items.specs.Brought.{HasIn}
use Rattle.lrpar_table_items.specs.Cores.{AreBringing, core_set}
use Rattle.lrpar_table_items.specs.Working.{AreSets, AreSpreadButWaiting, brought_rows}
use Rattle.lrpar_table_items.proofs.closure.bring.Given as goal

-- the sets have what the cores so far bring
abbrev pub invariant-loop-core : goal.invariant-loop-core
invariant-loop-core g l =
    let index = g.StorageT.StorageIndex.index in
    AreSets l.grm l.sets
    × AreSpreadButWaiting l.grm l.sets
    × ((r t : ℕ) → HasIn (brought_rows l.sets) r t ↔ AreBringing l.grm (map (core_set index) (take l.core-index l.cores)) r t)
