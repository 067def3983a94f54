use Rattle.std.proofs.Common.{◌≡◌, None}
use Rattle.lrpar_table_pops.specs.FollowAll.{AreRightActions}
use Rattle.lrpar_table_pops.specs.FoundAll.{FindsAll}
use Rattle.lrpar_table_pops.specs.Steps.{StaysRight}
use Rattle.lrpar_table_pops.specs.StoredAll.{StartsSoFar}
use Rattle.lrpar_table_pops.proofs.pops.Pops.start_all.Given as goal

-- what is found so far is right, and nothing that the tokens before the place lead to is left out
abbrev pub invariant-loop-place : goal.invariant-loop-place
invariant-loop-place g l =
    let index = g.StorageT.StorageIndex.index in
    let s = index l.fn.state.0 in
    record {
      right : StaysRight l.checked.grammar l.checked.table l.self s None l.initial.found l.found;
      followed : l.found.followed ≡ l.initial.found.followed;
      all : AreRightActions l.checked.grammar l.checked.table
          → FindsAll l.checked.grammar (StartsSoFar index l.checked.grammar l.checked.table l.self s l.tokens l.place) l.initial.found l.found;
    }
