use Rattle.lrpar_table_items.specs.Next.{kernel_rows}
use Rattle.lrpar_table_merge.specs.Held.{GoesBy}
use Rattle.lrpar_table_merge.specs.MergedStates.{all_transitions}
use Rattle.lrpar_table_merge.specs.PassedOn.{all_missing}
use Rattle.lrpar_table_merge.specs.Propagated.{AreAlike, ArePropagated}
use Rattle.lrpar_table_items.specs.Working.{AreSets}
use Rattle.lrpar_table_merge.proofs.propagate.pass_rounds.Given as goal

-- the states that don't wait are passed on
abbrev pub invariant-rounds : goal.invariant-rounds
invariant-rounds g l = record {
  sets : AreSets l.grm l.sets;
  alike : AreAlike (kernel_rows g.StorageT.StorageIndex.index l.initial.kernels) (kernel_rows g.StorageT.StorageIndex.index l.kernels);
  propagated : ArePropagated l.grm (GoesBy (all_transitions l.all)) (kernel_rows g.StorageT.StorageIndex.index l.kernels) l.waits;
}

-- the tokens that all kernels lack
abbrev pub decreases-rounds : goal.decreases-rounds
decreases-rounds g l = all_missing (kernel_rows g.StorageT.StorageIndex.index l.kernels)
