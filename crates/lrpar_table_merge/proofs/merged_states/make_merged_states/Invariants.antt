use Rattle.std.proofs.Common.{◌≡◌, ◌<◌, ◌≤◌, ℕ, length, map}
use Rattle.lrpar_table_items.specs.Next.{kernel_at, kernel_rows}
use Rattle.lrpar_table_items.specs.States.{state_at, state_of}
use Rattle.lrpar_table_merge.specs.Held.{transitions_at}
use Rattle.lrpar_table_merge.specs.MergedStates.{all_transitions}
use Rattle.lrpar_table_merge.specs.MergedSteps.{IsGivenState}
use Rattle.lrpar_table_items.specs.Working.{AreSets}
use Rattle.lrpar_table_merge.proofs.merged_states.make_merged_states.Given as goal

-- the states so far are those of the first kernels
abbrev pub invariant-loop-number : goal.invariant-loop-number
invariant-loop-number g l =
    let index = g.StorageT.StorageIndex.index in
    let kernels = kernel_rows index l.kernels in
    let states = map (state_of index) l.states.items in record {
      sets : AreSets l.grm l.sets;
      within : l.number ≤ length l.kernels;
      len : length states ≡ l.number;
      given : (s : ℕ) → s < l.number
          → IsGivenState l.grm kernels (transitions_at (all_transitions l.all) s) (kernel_at kernels s) (state_at states s);
    }
