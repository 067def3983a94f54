use Rattle.std.proofs.Common.{◌-◌}
use Rattle.lrpar_table_merge.specs.Merging.{AreMerging}
use Rattle.lrpar_table_items.specs.Working.{AreSets}
use Rattle.lrpar_table_merge.proofs.WorkLemmas.{IsPassTo}
use Rattle.lrpar_table_merge.proofs.merge.Merging.work_on_all.Given as goal

-- if a state waited, less work is left than at first; otherwise none of those before this one waits
abbrev pub invariant-states : goal.invariant-states
invariant-states g l =
    let index = g.StorageT.StorageIndex.index in record {
      sets : AreSets l.grm l.sets;
      merging : AreMerging index l.grm l.max_states g.StorageT.StorageIndex.limit l.self;
      pass : IsPassTo index l.grm l.max_states l.initial.self.states.items l.self.states.items l.number l.waited;
    }

-- the states that are left
abbrev pub decreases-states : goal.decreases-states
decreases-states g l = l.max_states - l.number
