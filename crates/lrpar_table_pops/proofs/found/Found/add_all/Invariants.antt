use Rattle.std.proofs.Common.{◌≡◌, take}
use Rattle.lrpar_table_pops.specs.Exits.{HasExit}
use Rattle.lrpar_table_pops.specs.Found.{StaysFound}
use Rattle.lrpar_table_pops.specs.FoundAll.{FindsAll, IsAmong}
use Rattle.lrpar_table_pops.specs.Growth.{SomeHasLookahead}
use Rattle.lrpar_table_pops.proofs.found.Found.add_all.Given as goal

-- the exits before the place were taken
abbrev pub invariant-loop-place : goal.invariant-loop-place
invariant-loop-place g l = record {
  stays : StaysFound l.grm (HasExit (take l.place l.above)) l.initial.self l.self;
  all : FindsAll l.grm (IsAmong l.grm (SomeHasLookahead (take l.place l.above))) l.initial.self l.self;
  followed : l.self.followed ≡ l.initial.self.followed;
}
