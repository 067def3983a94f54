use Rattle.std.proofs.Common.{◌<◌, ℕ}
use Rattle.std.specs.Bool.{OnFalse}
use Rattle.lrpar_table_items.specs.Working.{AreSets, AreSpreadButWaiting, HasGrown, Rests}
use Rattle.lrpar_table_items.proofs.reach.spread_all.Given as goal

-- if nothing was new, the rules so far don't wait
abbrev pub invariant-loop-rule : goal.invariant-loop-rule
invariant-loop-rule g l =
    AreSets l.grm l.sets
    × AreSpreadButWaiting l.grm l.sets
    × HasGrown l.grm l.grown l.initial.sets l.sets
    × OnFalse l.grown ((n : ℕ) → n < l.rule → Rests l.sets n)
