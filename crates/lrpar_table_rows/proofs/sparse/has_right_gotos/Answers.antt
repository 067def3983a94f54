use Rattle.std.proofs.Common.{map, refl, rules, tests}
use Rattle.lrpar_table_rows.specs.PlainRows.{goto_entry}
use Rattle.lrpar_table_rows.specs.Table.{AreEntries, IsGotoEntry}
use Rattle.lrpar_table_rows.proofs.Mapped.{rows_by_test}
use Rattle.lrpar_table_rows.proofs.sparse.has_right_gotos.Goals as goal

pub returns : goal.returns
returns g c =
    let rows = c.args.rows.now in
    rows_by_test (λ states. AreEntries (IsGotoEntry rows.rules states)) (map (goto_entry g.StorageT.StorageIndex.index)) rows.gotos.items c.all_rows.result
    rows.states rows.states refl (rw c.deref.ensures.value at c.all_rows.ensures) (λ x b k. search (rules, tests))
