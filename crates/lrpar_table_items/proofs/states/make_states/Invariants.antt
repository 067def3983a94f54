use Rattle.std.proofs.Common.{◌-◌, ◌≤◌, length, map}
use Rattle.lrpar_table_items.specs.Numbers.{AreNumbered}
use Rattle.lrpar_table_items.specs.States.{AreExpanded, StartsRight, state_of}
use Rattle.lrpar_table_items.specs.Working.{AreSets}
use Rattle.lrpar_table_items.proofs.states.make_states.Given as goal

-- the kernels are numbered, and the states so far are those of the first kernels
abbrev pub invariant-states : goal.invariant-states
invariant-states g l =
    let index = g.StorageT.StorageIndex.index in
    let kernels = l.kernels in
    let states = map (state_of index) l.states.items in record {
      sets : AreSets l.grm l.sets;
      numbered : AreNumbered l.grm l.max_states g.StorageT.StorageIndex.limit kernels;
      start : StartsRight l.grm kernels;
      few : length states ≤ length kernels;
      expanded : AreExpanded l.grm kernels states;
    }

abbrev pub decreases-states : goal.decreases-states
decreases-states g l = l.max_states - length l.states.items
