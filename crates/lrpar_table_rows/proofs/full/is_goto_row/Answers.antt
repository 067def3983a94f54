use Rattle.std.proofs.Common.{rules, tests}
use Rattle.std.proofs.lemmas.Iterator.{YieldsList-from_slice}
use Rattle.lrpar_table_rows.specs.Table.{IsGotoWithin}
use Rattle.lrpar_table_rows.specs.PlainRows.{plain_goto}
use Rattle.lrpar_table_rows.proofs.Mapped.{all_by_test, row_refused, row_test}
use Rattle.lrpar_table_rows.proofs.full.is_goto_row.Goals as goal

pub returns-then-row-rules : goal.returns-then-row-rules
returns-then-row-rules g c =
    let goto = plain_goto g.StorageT.StorageIndex.index in
    row_test (IsGotoWithin c.args.states) goto c.args.row.now c.args.rules _ c.if-row-rules.true
    (all_by_test (λ x. IsGotoWithin c.args.states (goto x)) _ _ c.all.result c.all.ensures.ran (YieldsList-from_slice c.args.row.now cc)
    (λ x b q k. search (rules, tests)))

pub returns-else-row-rules : goal.returns-else-row-rules
returns-else-row-rules g c =
    row_refused (IsGotoWithin c.args.states) (plain_goto g.StorageT.StorageIndex.index) c.args.row.now c.args.rules c.if-row-rules.false
