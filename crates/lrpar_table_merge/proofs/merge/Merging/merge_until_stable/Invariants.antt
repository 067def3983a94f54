use Rattle.lrpar_table_merge.specs.Merging.{AreMerging, work_left}
use Rattle.lrpar_table_items.specs.Working.{AreSets}
use Rattle.lrpar_table_merge.proofs.merge.Merging.merge_until_stable.Given as goal

-- each state has a kernel
abbrev pub invariant-rounds : goal.invariant-rounds
invariant-rounds g l = record {
  sets : AreSets l.grm l.sets;
  merging : AreMerging g.StorageT.StorageIndex.index l.grm l.max_states g.StorageT.StorageIndex.limit l.self;
}

-- how often states can still be worked on
abbrev pub decreases-rounds : goal.decreases-rounds
decreases-rounds g l = work_left g.StorageT.StorageIndex.index l.grm l.max_states l.self.states.items
