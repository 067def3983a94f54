use Rattle.std.proofs.Common.{◌<◌, ◌≤◌}
use Rattle.std.specs.Bool.{OnFalse, OnTrue}
use Rattle.lrpar_table_pops.specs.FollowAll.{AreRulesDone, FollowsAllFor}
use Rattle.lrpar_table_pops.specs.FoundAll.{IsUnchanged}
use Rattle.lrpar_table_pops.specs.Sets.{room_in}
use Rattle.lrpar_table_pops.specs.Steps.{FollowsState}
use Rattle.lrpar_table_pops.proofs.pops.Pops.follow_once.Given as goal

-- the rules before the place were followed
abbrev pub invariant-loop-place : goal.invariant-loop-place
invariant-loop-place g l = record {
  follows : FollowsState g.StorageT.StorageIndex.index l.checked.grammar l.checked.table l.self l.fn.state l.initial.found l.found;
  all : FollowsAllFor g.StorageT.StorageIndex.index l.checked.grammar l.checked.table l.self l.fn.state l.initial.found l.found;
  same : OnFalse l.was_due (IsUnchanged l.initial.found l.found);
  done : OnFalse l.was_due (AreRulesDone g.StorageT.StorageIndex.index l.checked.table (g.StorageT.StorageIndex.index l.fn.state.0) l.rules l.place l.initial.found);
  less : OnTrue l.was_due (room_in l.found.followed.items < room_in l.initial.found.followed.items);
  no_more : room_in l.found.followed.items ≤ room_in l.initial.found.followed.items;
}
