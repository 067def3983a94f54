use Rattle.std.proofs.Common.{map, take}
use Rattle.lrpar_table_rows.specs.Graph.{ItemOf}
use Rattle.lrpar_table_items.specs.Cores.{IsAmong, core_set}
use Rattle.lrpar_table_merge.proofs.propagate.has_items.Given as goal

-- the cores so far have no item
abbrev pub invariant-loop-core : goal.invariant-loop-core
invariant-loop-core g l = (x : ItemOf) → IsAmong (map (core_set g.StorageT.StorageIndex.index) (take l.core-index l.cores)) x → ⊥
