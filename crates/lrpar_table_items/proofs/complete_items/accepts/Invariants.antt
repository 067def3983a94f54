use Rattle.std.proofs.Common.{◌≡◌, false, map, take}
use Rattle.lrpar_table_items.specs.Cores.{core_set}
use Rattle.lrpar_table_items.specs.CompleteItems.{accepts_at}
use Rattle.lrpar_table_items.proofs.complete_items.accepts.Given as goal

-- none of the cores so far accepts
abbrev pub invariant-loop-core : goal.invariant-loop-core
invariant-loop-core g l =
    let index = g.StorageT.StorageIndex.index in accepts_at l.start (map (λ core. core_set index core.now) (take l.core-index l.complete)) l.token ≡ false
