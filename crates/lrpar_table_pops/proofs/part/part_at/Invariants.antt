use Rattle.std.proofs.Common.{◌≡◌, length}
use Rattle.lrpar_table_pops.proofs.RowLemmas.{AreActs, AreGoes}
use Rattle.lrpar_table_pops.proofs.part.part_at.Given as goal

-- there are rows for the states so far, with some of their actions, and with their gotos
abbrev pub invariant-states : goal.invariant-states
invariant-states g l =
    let index = g.StorageT.StorageIndex.index in
    record {
      acts_len : length l.actions.items ≡ l.number;
      acts : AreActs index l.stable l.actions.items;
      goes_len : length l.gotos.items ≡ l.number;
      goes : AreGoes index l.stable l.gotos.items;
    }
