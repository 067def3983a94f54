use Rattle.lrpar_table_stacks.specs.Stack.{AreSomeStatesOf, states_of}
use Rattle.lrpar_table_check.proofs.LengthLemmas.{Comes}
use Rattle.lrpar_table_check.proofs.chains.Chains.count_reductions.Given as goal

-- there are states, all of the table, to which the chain has come by `made` steps
abbrev pub invariant-loop-made : goal.invariant-loop-made
invariant-loop-made g l =
    let index = g.StorageT.StorageIndex.index in
    let table = l.self.stable.now in
    record {
      states : AreSomeStatesOf table (states_of index l.states.items);
      comes : Comes l.self.grm.now table (index l.t.0) (states_of index l.fn.states.items) (states_of index l.states.items) l.made;
    }
