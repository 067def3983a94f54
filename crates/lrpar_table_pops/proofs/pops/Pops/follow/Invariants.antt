use Rattle.lrpar_table_pops.specs.FollowAll.{FollowsAllFor}
use Rattle.lrpar_table_pops.specs.Sets.{room_in}
use Rattle.lrpar_table_pops.specs.Steps.{FollowsState}
use Rattle.lrpar_table_pops.proofs.pops.Pops.follow.Given as goal

-- what was followed so far is right, and is found
abbrev pub invariant-passes : goal.invariant-passes
invariant-passes g l = record {
  follows : FollowsState g.StorageT.StorageIndex.index l.checked.grammar l.checked.table l.self l.state l.initial.found l.found;
  all : FollowsAllFor g.StorageT.StorageIndex.index l.checked.grammar l.checked.table l.self l.state l.initial.found l.found;
}

abbrev pub decreases-passes : goal.decreases-passes
decreases-passes g l = room_in l.found.followed.items
