use Rattle.std.proofs.Common.{◌<◌, length}
use Rattle.lrpar_table_pops.proofs.SearchLemmas.{IsListedTo}
use Rattle.lrpar_table_pops.proofs.StuckLemmas.{RestLists}
use Rattle.lrpar_table_pops.proofs.searched.Searched.states.Given as goal

-- the states above the place are listed, top first
abbrev pub invariant-below : goal.invariant-below
invariant-below g l = record {
  within : l.at < length l.self.stacks.items;
  rest : RestLists g.StorageT.StorageIndex.index l.self.stacks.items l.fn.place l.at l.states.items;
  listed : IsListedTo g.StorageT.StorageIndex.index l.checked.table l.self.stacks.items l.at l.states.items;
}

abbrev pub decreases-below : goal.decreases-below
decreases-below g l = l.at
