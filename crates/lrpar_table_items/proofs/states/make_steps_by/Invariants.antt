use Rattle.std.proofs.Common.{map}
use Rattle.lrpar_table_items.specs.Cores.{core_set}
use Rattle.lrpar_table_items.specs.Kernels.{AreKept}
use Rattle.lrpar_table_items.specs.Numbers.{AreNumbered}
use Rattle.lrpar_table_items.specs.States.{AreStepsBelow, step_entry}
use Rattle.lrpar_table_items.proofs.states.make_steps_by.Given as goal

-- the kernels are numbered, the old ones as they were, and the rows are those of the symbols so far
abbrev pub invariant-loop-number : goal.invariant-loop-number
invariant-loop-number g l =
    let index = g.StorageT.StorageIndex.index in
    let entry = step_entry g.SymbolT.Numbered.number index in
    let kernels = l.kernels in record {
      numbered : AreNumbered l.grm l.max_states g.StorageT.StorageIndex.limit kernels;
      kept : AreKept l.initial.kernels kernels;
      steps : AreStepsBelow l.grm kernels (map (core_set index) l.successors.items.items) g.SymbolT.SymbolKind.symbol (map entry l.rows.items) l.number;
    }
