use Rattle.std.proofs.Common.{◌∙◌, ap, map}
use Rattle.lrpar_table_rows.specs.PlainRows.{action_entry}
use Rattle.lrpar_table_rows.specs.Table.{with_resolved}
use Rattle.lrpar_table_items.specs.States.{state_of}
use Rattle.lrpar_table_build.proofs.TablesLemmas.{table_by}
use Rattle.lrpar_table_build.proofs.tables.graph_and_table.Goals as goal

pub all_actions-requires-clause-rows : goal.all_actions-requires-clause-rows
all_actions-requires-clause-rows g c = rw c.deref.ensures.value c.requires.rows

pub sparse_rows-requires-clause-actions : goal.sparse_rows-requires-clause-actions
sparse_rows-requires-clause-actions g c =
    let made = rw c.deref.ensures.value at c.in_ok-actions.ensures.made in (c.args.precedences.now, made.actions)

pub returns-clause-made : goal.returns-clause-made
returns-clause-made g c =
    let index = g.StorageT.StorageIndex.index in
    let made = rw c.deref.ensures.value at c.in_ok-actions.ensures.made in
    let decided = c.in_ok-actions.resolved in
    let same = table_by c.args.precedences.now c.args.grm.now (map (state_of index) c.args.states.items)
    (map (λ row. map (action_entry index) row.items) c.in_ok-actions.actions.items) c.in_ok-actions.conflicts decided made.actions made.conflicts made.decided in record {
      len = rw c.deref-2.ensures.value at c.in_ok-graph.ensures.len;
      items = rw c.deref-2.ensures.value at c.in_ok-graph.ensures.items;
      table = c.with_resolved.ensures ∙ ap (λ table. with_resolved table decided) (c.in_ok-table.ensures.table ∙ c.in_ok-rows.ensures.are) ∙ same;
      none = made.none;
    }

pub table_of-requires : goal.table_of-requires
table_of-requires g c = c.in_ok-rows.ensures.valid
