use Rattle.std.proofs.Common.{rules, tests}
use Rattle.std.proofs.lemmas.Iterator.{YieldsList-from_slice}
use Rattle.lrpar_table_rows.specs.PlainRows.{goto_entry}
use Rattle.lrpar_table_rows.specs.Table.{IsGotoEntry}
use Rattle.lrpar_table_rows.proofs.EntryLemmas.{entries_refused, entries_test}
use Rattle.lrpar_table_rows.proofs.Mapped.{all_by_test}
use Rattle.lrpar_table_rows.proofs.sparse.is_goto_row.Goals as goal

pub returns-then-ascends : goal.returns-then-ascends
returns-then-ascends g c =
    let index = g.StorageT.StorageIndex.index in
    let entries =
    all_by_test (λ entry. IsGotoEntry c.args.rules c.args.states (goto_entry index entry)) _ _ c.all.result c.all.ensures.ran
    (YieldsList-from_slice c.args.row.now cc) (λ x b q k. search (rules, tests)) in
    entries_test (λ r. index r.0) (λ s. index s.0) (IsGotoEntry c.args.rules c.args.states) c.args.row.now _
    (c.ascends.ensures.0 c.if-ascends.true) entries

pub returns-else-ascends : goal.returns-else-ascends
returns-else-ascends g c =
    entries_refused (λ r. g.StorageT.StorageIndex.index r.0) (λ s. g.StorageT.StorageIndex.index s.0) (IsGotoEntry c.args.rules c.args.states) c.args.row.now _ c.if-ascends.false
    c.ascends.ensures
