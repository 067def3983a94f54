use Rattle.std.proofs.Common.{◌≡◌, ◌-◌}
use Rattle.lrpar_table_pops.specs.Growth.{HaveRoomFor}
use Rattle.lrpar_table_pops.specs.Closed.{AreAllPopsOf}
use Rattle.lrpar_table_pops.specs.StoredPops.{any_of}
use Rattle.lrpar_table_pops.specs.Searched.{AreAllGood, AreDone, AreStacks}
use Rattle.lrpar_table_pops.proofs.check_completable.search.Given as goal

-- the stacks before the place are done
abbrev pub invariant-stacks : goal.invariant-stacks
invariant-stacks g l =
    let index = g.StorageT.StorageIndex.index in
    record {
      stacks : AreStacks index l.checked.grammar l.checked.table l.searched.stacks.items;
      all_good : l.part ≡ l.checked.table → AreAllPopsOf l.checked.grammar l.checked.table l.pops → AreAllGood index l.checked.grammar l.checked.graph l.checked.table l.searched.stacks.items;
      room : HaveRoomFor l.checked.grammar l.reduced.items;
      done : AreDone index l.checked.grammar l.checked.table (any_of l.pops) l.searched.stacks.items l.place;
    }

-- how many more there can be
abbrev pub decreases-stacks : goal.decreases-stacks
decreases-stacks g l = l.most - l.place
