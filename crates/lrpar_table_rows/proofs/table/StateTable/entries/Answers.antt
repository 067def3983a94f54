use Rattle.std.proofs.Common.{arith}
use Rattle.lrpar_table_rows.specs.PlainRows.{action_entry, goto_entry}
use Rattle.lrpar_table_rows.proofs.CountLemmas.{entries_counted}
use Rattle.lrpar_table_rows.proofs.CutLemmas.{image_len}
use Rattle.lrpar_table_rows.proofs.table.StateTable.entries.Goals as goal

pub returns : goal.returns
returns g c =
    let index = g.StorageT.StorageIndex.index in
    let actions = image_len (action_entry index) c.self.inside.actions in
    let gotos = image_len (goto_entry index) c.self.inside.gotos in
    let counted = entries_counted g.StorageT.StorageIndex.limit _ c.self.invariant in
    rw (← c.self.view_is) (omega (arith, counted, actions, gotos, c.len.ensures, c.len-2.ensures))
