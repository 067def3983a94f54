use Rattle.std.proofs.Common.{refl}
use Rattle.lrpar_table_rows.proofs.EntryLemmas.{no_action_past}
use Rattle.lrpar_table_rows.proofs.table.StateTable.tokens_len.Goals as goal

pub returns : goal.returns
returns g c =
    rw (← c.self.view_is)
    (record { tokens = refl; fits = c.self.invariant.tokens_fit; end = no_action_past g.StorageT.StorageIndex.limit _ c.self.invariant })
