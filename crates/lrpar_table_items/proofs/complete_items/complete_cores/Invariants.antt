use Rattle.std.proofs.Common.{◌≡◌, ◌==◌, filter, map, take}
use Rattle.lrpar_grammar.specs.Grammar.{prod_len}
use Rattle.lrpar_table_items.specs.Cores.{core_set}
use Rattle.lrpar_table_items.proofs.complete_items.complete_cores.Given as goal

-- the complete ones of the cores so far
abbrev pub invariant-loop-core : goal.invariant-loop-core
invariant-loop-core g l =
    let index = g.StorageT.StorageIndex.index in
    map (λ core. core_set index core.now) l.complete.items
    ≡ filter (λ core. core.dot == prod_len l.grm core.prod) (map (core_set index) (take l.core-index l.cores))
