use Rattle.lrpar_table_rows.specs.PlainRows.{goto_entry}
use Rattle.lrpar_table_rows.proofs.EntryLemmas.{gotos_exact, gotos_good}
use Rattle.lrpar_table_rows.proofs.RowLemmas.{image_of_row}
use Rattle.lrpar_table_rows.proofs.table.StateTable.gotos_of.Goals as goal

pub returns : goal.returns
returns g c =
    let s = g.StorageT.StorageIndex.index c.args.s.0 in
    let entries = image_of_row (goto_entry g.StorageT.StorageIndex.index) c.self.inside.gotos _ c.from.result s c.row.ensures.entries c.from.ensures in
    let good = gotos_good g.StorageT.StorageIndex.limit _ c.self.invariant s in
    let exact = gotos_exact g.StorageT.StorageIndex.limit _ c.self.invariant s in
    rw (← c.self.view_is) (record { entries = entries; states = c.row.ensures.values; exact = exact; ascending = good.ascending; within = good.each })
