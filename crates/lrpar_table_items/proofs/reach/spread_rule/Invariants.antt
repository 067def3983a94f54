use Rattle.std.proofs.Common.{◌≡◌, All, take}
use Rattle.std.specs.Bool.{OnFalse}
use Rattle.lrpar_grammar.specs.Symbols.{prod_numbers}
use Rattle.lrpar_table_items.specs.Working.{AreSets, HasGrown, KeepsResting}
use Rattle.lrpar_table_items.proofs.RestLemmas.{IsSpreadOrWaits}
use Rattle.lrpar_table_items.proofs.reach.spread_rule.Given as goal

-- the sets are closed at the productions so far, unless the rule waits
abbrev pub invariant-loop-pidx : goal.invariant-loop-pidx
invariant-loop-pidx g l =
    let index = g.StorageT.StorageIndex.index in
    AreSets l.grm l.sets
    × HasGrown l.grm l.grown l.initial.sets l.sets
    × KeepsResting l.initial.sets l.sets
    × OnFalse l.grown (l.sets.waits.items ≡ l.initial.sets.waits.items)
    × All (IsSpreadOrWaits l.grm l.sets) (prod_numbers index (take l.pidx-index l.pidx-items))
