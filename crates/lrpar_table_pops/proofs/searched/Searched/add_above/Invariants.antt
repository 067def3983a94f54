use Rattle.std.proofs.Common.{take}
use Rattle.std.specs.Prelude.{Contains}
use Rattle.lrpar_grammar_places.specs.declared.span.StIdx.{StIdx}
use Rattle.lrpar_table_rows.specs.declared.rows.Action.{Action}
use Rattle.lrpar_table_pops.specs.Searched.{AreStacks, GoesOnAllGood, IsMetAt, IsShiftMetAt, KeepsStacks}
use Rattle.lrpar_table_pops.proofs.SearchLemmas.{AreShiftsMet}
use Rattle.lrpar_table_pops.proofs.searched.Searched.add_above.Given as goal

-- the states of the shifts so far are met
abbrev pub invariant-shifts : goal.invariant-shifts
invariant-shifts g l =
    let index = g.StorageT.StorageIndex.index in
    record {
      stacks : AreStacks index l.checked.grammar l.checked.table l.self.stacks.items;
      all_good : GoesOnAllGood index l.checked.grammar l.checked.graph l.checked.table l.part l.pops l.fn.self.stacks.items l.self.stacks.items;
      keeps : KeepsStacks l.fn.self.stacks.items l.self.stacks.items;
      met : (action : Action g.row.StorageT.Denot) → Contains (take l.action-index l.actions) action → IsShiftMetAt index l.checked.grammar l.checked.table l.self.stacks.items l.place action;
    }

-- the states of all shifts are met, and of the gotos so far
abbrev pub invariant-gotos : goal.invariant-gotos
invariant-gotos g l =
    let index = g.StorageT.StorageIndex.index in
    record {
      stacks : AreStacks index l.checked.grammar l.checked.table l.self.stacks.items;
      all_good : GoesOnAllGood index l.checked.grammar l.checked.graph l.checked.table l.part l.pops l.fn.self.stacks.items l.self.stacks.items;
      keeps : KeepsStacks l.fn.self.stacks.items l.self.stacks.items;
      shifts : AreShiftsMet index l.checked.grammar l.checked.table l.self.stacks.items l.place;
      met : (next : StIdx g.row.StorageT.Denot) → Contains (take l.next-index l.nexts) next → IsMetAt index l.checked.grammar l.checked.table l.self.stacks.items l.place (index next.0);
    }
