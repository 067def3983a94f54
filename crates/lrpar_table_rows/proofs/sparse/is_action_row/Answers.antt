use Rattle.std.proofs.Common.{rules, tests}
use Rattle.std.proofs.lemmas.Iterator.{YieldsList-from_slice}
use Rattle.lrpar_table_rows.specs.PlainRows.{action_entry, plain_action}
use Rattle.lrpar_table_rows.specs.Table.{IsActionEntry}
use Rattle.lrpar_table_rows.proofs.EntryLemmas.{entries_refused, entries_test}
use Rattle.lrpar_table_rows.proofs.Mapped.{all_by_test}
use Rattle.lrpar_table_rows.proofs.sparse.is_action_row.Goals as goal

pub returns-then-ascends : goal.returns-then-ascends
returns-then-ascends g c =
    let index = g.StorageT.StorageIndex.index in
    let entries =
    all_by_test (λ entry. IsActionEntry c.args.tokens c.args.states (action_entry index entry)) _ _ c.all.result c.all.ensures.ran
    (YieldsList-from_slice c.args.row.now cc) (λ x b q k. search (rules, tests)) in
    entries_test (λ t. index t.0) (plain_action index) (IsActionEntry c.args.tokens c.args.states) c.args.row.now _
    (c.ascends.ensures.0 c.if-ascends.true) entries

pub returns-else-ascends : goal.returns-else-ascends
returns-else-ascends g c =
    entries_refused (λ t. g.StorageT.StorageIndex.index t.0) (plain_action g.StorageT.StorageIndex.index) (IsActionEntry c.args.tokens c.args.states) c.args.row.now _ c.if-ascends.false
    c.ascends.ensures
