use Rattle.std.proofs.Common.{◌≡◌, ◌∙◌, length, subst, IfOk}
use Rattle.lrpar_table_rows.specs.PlainRows.{plain_action, plain_goto}
use Rattle.lrpar_table_rows.specs.Table.{IsActionWithin, IsGotoWithin, Table}
use Rattle.lrpar_table_rows.proofs.RowLemmas.{table_from_rows}
use Rattle.lrpar_table_rows.proofs.TableLemmas.{short_rows, stored_are}
use Rattle.lrpar_table_rows.proofs.table.of_rows.Goals as goal

pub stored_actions-requires : goal.stored_actions-requires
stored_actions-requires g c =
    rw c.deref.ensures.value
    (short_rows (λ row. row.items) (plain_action g.StorageT.StorageIndex.index) (IsActionWithin _) c.args.rows.actions.items c.args.rows.tokens
    g.StorageT.StorageIndex.limit c.requires.action_rows c.requires.tokens_fit)

pub stored_gotos-requires : goal.stored_gotos-requires
stored_gotos-requires g c =
    rw c.deref-2.ensures.value
    (short_rows (λ row. row.items) (plain_goto g.StorageT.StorageIndex.index) (IsGotoWithin _) c.args.rows.gotos.items c.args.rows.rules
    g.StorageT.StorageIndex.limit c.requires.goto_rows c.requires.rules_fit)

pub of_sparse-requires : goal.of_sparse-requires
of_sparse-requires g c =
    let rows = c.args.rows in
    let states : c.len-states.result ≡ length rows.actions.items = c.len-states.ensures ∙ rows.actions.ok.0 in
    rw (stored_are g.StorageT.StorageIndex.index rows c.len-states.result c.in_ok-actions.actions c.in_ok-gotos.gotos
    states (rw c.deref.ensures.value at c.in_ok-actions.ensures) (rw c.deref-2.ensures.value at c.in_ok-gotos.ensures))
    (table_from_rows g.StorageT.StorageIndex.limit _ c.requires)

pub returns : goal.returns
returns g c =
    let rows = c.args.rows in
    let states : c.len-states.result ≡ length rows.actions.items = c.len-states.ensures ∙ rows.actions.ok.0 in
    subst (λ (made : Table). IfOk c.of_sparse.result (λ table. table ≡ made))
    (stored_are g.StorageT.StorageIndex.index rows c.len-states.result c.in_ok-actions.actions c.in_ok-gotos.gotos
    states (rw c.deref.ensures.value at c.in_ok-actions.ensures) (rw c.deref-2.ensures.value at c.in_ok-gotos.ensures))
    c.of_sparse.ensures
