use Rattle.std.proofs.Common.{map, refl, rules, tests}
use Rattle.lrpar_table_rows.specs.PlainRows.{action_entry}
use Rattle.lrpar_table_rows.specs.Table.{AreEntries, IsActionEntry}
use Rattle.lrpar_table_rows.proofs.Mapped.{rows_by_test}
use Rattle.lrpar_table_rows.proofs.sparse.has_right_actions.Goals as goal

pub returns : goal.returns
returns g c =
    let rows = c.args.rows.now in
    rows_by_test (λ states. AreEntries (IsActionEntry rows.tokens states)) (map (action_entry g.StorageT.StorageIndex.index)) rows.actions.items c.all_rows.result
    rows.states rows.states refl (rw c.deref.ensures.value at c.all_rows.ensures) (λ x b k. search (rules, tests))
