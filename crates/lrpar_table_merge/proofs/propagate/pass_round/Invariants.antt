use Rattle.lrpar_table_items.specs.Next.{kernel_rows}
use Rattle.lrpar_table_merge.specs.Held.{GoesBy}
use Rattle.lrpar_table_merge.specs.MergedStates.{all_transitions}
use Rattle.lrpar_table_merge.specs.Propagated.{AreAlike, ArePropagated, IsRoundTo}
use Rattle.lrpar_table_items.specs.Working.{AreSets}
use Rattle.lrpar_table_merge.proofs.propagate.pass_round.Given as goal

-- the states so far are passed on, and either kernels have grown, or none of these states waits
abbrev pub invariant-loop-state : goal.invariant-loop-state
invariant-loop-state g l =
    let now = kernel_rows g.StorageT.StorageIndex.index l.kernels in record {
      sets : AreSets l.grm l.sets;
      alike : AreAlike (kernel_rows g.StorageT.StorageIndex.index l.initial.kernels) now;
      propagated : ArePropagated l.grm (GoesBy (all_transitions l.all)) now l.waits;
      round : IsRoundTo (kernel_rows g.StorageT.StorageIndex.index l.initial.kernels) now l.waits l.state l.grown;
    }
