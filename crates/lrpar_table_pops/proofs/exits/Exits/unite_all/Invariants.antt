use Rattle.std.proofs.Common.{◌≡◌, ◌<◌, take}
use Rattle.lrpar_table_pops.specs.Growth.{GrowsBy, SomeHasLookahead}
use Rattle.std.specs.Bool.{OnFalse, OnTrue}
use Rattle.lrpar_table_pops.specs.Exits.{AddsOnly, HasExit, room_left}
use Rattle.lrpar_table_pops.proofs.exits.Exits.unite_all.Given as goal

-- some of the others were added
abbrev pub invariant-loop-place : goal.invariant-loop-place
invariant-loop-place l = record {
  adds : AddsOnly (HasExit l.others) l.initial.self l.self;
  all : GrowsBy (SomeHasLookahead (take l.place l.others)) l.initial.self l.self;
  grown : OnTrue l.grown (room_left l.self < room_left l.initial.self);
  same : OnFalse l.grown (l.self ≡ l.initial.self);
}
