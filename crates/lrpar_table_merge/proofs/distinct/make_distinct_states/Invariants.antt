use Rattle.std.proofs.Common.{◌≤◌, length}
use Rattle.lrpar_table_items.specs.Working.{AreSets}
use Rattle.lrpar_table_merge.specs.StoredKernels.{HaveCores}
use Rattle.lrpar_table_merge.proofs.distinct.make_distinct_states.Given as goal

-- the kernels have cores of the grammar, and there are no more than before
abbrev pub invariant-loop : goal.invariant-loop
invariant-loop g l =
    let index = g.StorageT.StorageIndex.index in record {
      sets : AreSets l.grm l.sets;
      cores : HaveCores index l.grm l.kernels.items;
      len : length l.kernels.items ≤ l.rounds;
    }
