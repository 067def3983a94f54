use Rattle.std.proofs.Common.{rules, tests}
use Rattle.std.proofs.lemmas.Iterator.{YieldsList-from_slice}
use Rattle.lrpar_table_rows.specs.Table.{IsActionWithin}
use Rattle.lrpar_table_rows.specs.PlainRows.{plain_action}
use Rattle.lrpar_table_rows.proofs.Mapped.{all_by_test, row_refused, row_test}
use Rattle.lrpar_table_rows.proofs.full.is_action_row.Goals as goal

pub returns-then-row-tokens : goal.returns-then-row-tokens
returns-then-row-tokens g c =
    let action = plain_action g.StorageT.StorageIndex.index in
    row_test (IsActionWithin c.args.states) action c.args.row.now c.args.tokens _ c.if-row-tokens.true
    (all_by_test (λ x. IsActionWithin c.args.states (action x)) _ _ c.all.result c.all.ensures.ran (YieldsList-from_slice c.args.row.now cc)
    (λ x b q k. search (rules, tests)))

pub returns-else-row-tokens : goal.returns-else-row-tokens
returns-else-row-tokens g c =
    row_refused (IsActionWithin c.args.states) (plain_action g.StorageT.StorageIndex.index) c.args.row.now c.args.tokens c.if-row-tokens.false
