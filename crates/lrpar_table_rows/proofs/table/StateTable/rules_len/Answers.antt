use Rattle.std.proofs.Common.{refl}
use Rattle.lrpar_table_rows.proofs.EntryLemmas.{no_goto_past}
use Rattle.lrpar_table_rows.proofs.table.StateTable.rules_len.Goals as goal

pub returns : goal.returns
returns g c =
    rw (← c.self.view_is)
    (record { rules = refl; fits = c.self.invariant.rules_fit; end = no_goto_past g.StorageT.StorageIndex.limit _ c.self.invariant })
