use Rattle.std.proofs.Common.{map, rules, tests}
use Rattle.lrpar_table_rows.specs.PlainRows.{plain_goto}
use Rattle.lrpar_table_rows.specs.Rows.{IsGotoRow}
use Rattle.lrpar_table_rows.proofs.Mapped.{rows_by_test}
use Rattle.lrpar_table_rows.proofs.TableLemmas.{states_of}
use Rattle.lrpar_table_rows.proofs.full.have_goto_rows.Goals as goal

pub returns : goal.returns
returns g c =
    let rows = c.args.rows.now in
    rows_by_test (IsGotoRow rows.rules) (map (plain_goto g.StorageT.StorageIndex.index)) rows.gotos.items c.all_rows.result _ _
    (states_of g.StorageT.StorageIndex.index rows c.len-states.result c.len-states.ensures) (rw c.deref.ensures.value at c.all_rows.ensures) (λ x b k. search (rules, tests))
