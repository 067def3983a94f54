use Rattle.std.proofs.Common.{◌≡◌, length}
use Rattle.lrpar_table_pops.specs.Growth.{KeepsWays}
use Rattle.lrpar_table_pops.proofs.ExitLemmas.{AreClearUpTo}
use Rattle.lrpar_table_pops.proofs.exits.clear_all.Given as goal

-- the exits before the place have no lookaheads
abbrev pub invariant-loop-place : goal.invariant-loop-place
invariant-loop-place l = record {
  long : length l.exits.items ≡ length l.initial.exits.items;
  clear : AreClearUpTo l.exits.items l.place;
  places : KeepsWays l.initial.exits.items l.exits.items;
}
