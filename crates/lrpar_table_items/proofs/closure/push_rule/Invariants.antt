use Rattle.std.proofs.Common.{◌≡◌, ◌++◌, map, take}
use Rattle.lrpar_grammar.specs.Symbols.{prod_numbers}
use Rattle.lrpar_table_items.specs.Cores.{core_set}
use Rattle.lrpar_table_items.proofs.PutLemmas.{front_core}
use Rattle.lrpar_table_items.proofs.closure.push_rule.Given as goal

-- the productions so far were appended to the cores
abbrev pub invariant-loop-pidx : goal.invariant-loop-pidx
invariant-loop-pidx g l =
    let index = g.StorageT.StorageIndex.index in
    map (core_set index) l.closure.items
    ≡ map (core_set index) l.initial.closure.items ++ map (front_core l.tokens) (prod_numbers index (take l.pidx-index l.pidx-items))
