use Rattle.std.proofs.Common.{◌≡◌, map, take}
use Rattle.lrpar_table_items.specs.Cores.{core_set}
use Rattle.lrpar_table_items.specs.CompleteItems.{prods_at}
use Rattle.lrpar_table_items.proofs.complete_items.reductions_at.Given as goal

-- the productions of the cores so far
abbrev pub invariant-loop-core : goal.invariant-loop-core
invariant-loop-core g l =
    let index = g.StorageT.StorageIndex.index in
    map (λ p. index p.0) l.prods.items ≡ prods_at l.start (map (λ core. core_set index core.now) (take l.core-index l.complete)) l.token
