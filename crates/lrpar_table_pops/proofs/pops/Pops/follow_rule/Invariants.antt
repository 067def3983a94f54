use Rattle.std.proofs.Common.{◌<◌, ◌≤◌}
use Rattle.std.specs.Bool.{OnFalse, OnTrue}
use Rattle.lrpar_table_pops.specs.FollowAll.{AreTokensDone, FollowsAllOf}
use Rattle.lrpar_table_pops.specs.FoundAll.{IsUnchanged}
use Rattle.lrpar_table_pops.specs.Sets.{room_in}
use Rattle.lrpar_table_pops.specs.Steps.{FollowsRule}
use Rattle.lrpar_table_pops.proofs.pops.Pops.follow_rule.Given as goal

-- the tokens before the place were followed
abbrev pub invariant-loop-place : goal.invariant-loop-place
invariant-loop-place g l = record {
  follows : FollowsRule g.StorageT.StorageIndex.index l.grm l.stable l.self l.rule l.next l.initial.found l.found;
  all : FollowsAllOf g.StorageT.StorageIndex.index l.grm l.stable l.self l.rule l.next l.initial.found l.found;
  same : OnFalse l.was_due (IsUnchanged l.initial.found l.found);
  done : OnFalse l.was_due (AreTokensDone g.StorageT.StorageIndex.index l.tokens l.place l.rule l.initial.found);
  less : OnTrue l.was_due (room_in l.found.followed.items < room_in l.initial.found.followed.items);
  no_more : room_in l.found.followed.items ≤ room_in l.initial.found.followed.items;
}
