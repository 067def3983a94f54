use Rattle.std.proofs.Common.{◌≡◌, ◌∙◌, length, map, sym, subst}
use Rattle.std.proofs.lemmas.List.{length-map}
use Rattle.lrpar_table_rows.specs.PlainRows.{action_entry}
use Rattle.lrpar_table_rows.specs.Table.{IsTable}
use Rattle.lrpar_table_rows.proofs.TableLemmas.{parts_are}
use Rattle.lrpar_table_rows.proofs.table.of_sparse.Goals as goal

pub invariant_of-result : goal.invariant_of-result
invariant_of-result g c =
    let index = g.StorageT.StorageIndex.index in
    let rows = c.args.rows in
    let states : length rows.actions.items ≡ rows.states = sym (length-map rows.actions.items (λ row. map (action_entry index) row.items)) ∙ c.requires.actions_len in
    subst (IsTable g.StorageT.StorageIndex.limit)
    (sym (parts_are index rows c.in_ok-actions.actions c.in_ok-gotos.gotos c.none-resolved.result c.none-resolved.ensures states (rw c.deref.ensures.value at c.in_ok-actions.ensures)
    (rw c.deref-2.ensures.value at c.in_ok-gotos.ensures))) c.requires

pub returns : goal.returns
returns g c =
    let index = g.StorageT.StorageIndex.index in
    let rows = c.args.rows in
    let states : length rows.actions.items ≡ rows.states = sym (length-map rows.actions.items (λ row. map (action_entry index) row.items)) ∙ c.requires.actions_len in
    parts_are index rows c.in_ok-actions.actions c.in_ok-gotos.gotos c.none-resolved.result c.none-resolved.ensures states (rw c.deref.ensures.value at c.in_ok-actions.ensures)
    (rw c.deref-2.ensures.value at c.in_ok-gotos.ensures)
