use Rattle.std.proofs.Common.{◌↔◌, map, subst, sym}
use Rattle.lrpar_table_rows.specs.Graph.{Graph, HasItem, item_at}
use Rattle.lrpar_table_rows.proofs.ItemLemmas.{same_at_each}
use Rattle.lrpar_table_items.specs.StateRows.{item_rows}
use Rattle.lrpar_table_items.specs.States.{state_of}
use Rattle.lrpar_table_build.proofs.tables.graph_of.Goals as goal

pub returns-in-Ok-clause-items : goal.returns-in-Ok-clause-items
returns-in-Ok-clause-items g c =
    let index = g.StorageT.StorageIndex.index in
    let rows = item_rows c.args.grm.now (map (state_of index) c.args.states.now) in
    λ s p k t. subst (λ (graph : Graph). HasItem graph s p k t ↔ HasItem rows s p k t) (sym c.in-Ok.ensures.made)
    (same_at_each c.in_ok-sets.sets.items rows c.in_ok-sets.ensures s (item_at p k t))
