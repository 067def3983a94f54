use Rattle.std.proofs.Common.{ℕ, take}
use Rattle.lrpar_table_pops.specs.Growth.{HasLookahead, SomeHasLookahead}
use Rattle.lrpar_table_pops.specs.declared.exits.Way.{Way}
use Rattle.lrpar_table_pops.proofs.exits.Exits.meet.Given as goal

-- no exit before the place is one of the others
abbrev pub invariant-loop-place : goal.invariant-loop-place
invariant-loop-place l = (way : Way) (t : ℕ) → SomeHasLookahead (take l.place l.self) way t → ¬ (HasLookahead l.others way t)
