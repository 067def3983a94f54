use Rattle.lrpar_table_pops.specs.Good.{LeadToReductions}
use Rattle.lrpar_table_pops.specs.Growth.{HaveRoomFor}
use Rattle.lrpar_table_pops.specs.Sets.{room_in}
use Rattle.lrpar_table_pops.proofs.good.set_good_reductions.Given as goal

-- the reductions so far are right, and there is room for all
abbrev pub invariant-passes : goal.invariant-passes
invariant-passes g l = record {
  good : LeadToReductions l.checked.grammar l.checked.table (g.StorageT.StorageIndex.index l.state.0) l.good l.reduced.items;
  room : HaveRoomFor l.checked.grammar l.reduced.items;
}

-- the tokens that aren't added yet
abbrev pub decreases-passes : goal.decreases-passes
decreases-passes g l = room_in l.reduced.items
