use Rattle.std.proofs.Common.{[], ◌≡◌, None, Some, slice_index_or}
use Rattle.lrpar_table_rows.proofs.GraphLemmas.{no_core_there}
use Rattle.lrpar_table_rows.proofs.TestLemmas.{item_read}
use Rattle.lrpar_table_rows.proofs.graph.StateGraph.has_core.Goals as goal

pub returns-in-Some : goal.returns-in-Some
returns-in-Some g c =
    let sets = c.self.inside.sets.items in
    let read : c.in-Some.set.now ≡ slice_index_or sets c.from.result [] =
    item_read sets c.deref.result.now c.from.result (Some c.in-Some.set.now) [] c.deref.ensures.value c.in-Some.ensures.lookup.4 in
    record { found = rw (← c.self.view_is, ← c.from.ensures, ← read) c.has_core.ensures.found }

pub returns-in-None : goal.returns-in-None
returns-in-None g c =
    let sets = c.self.inside.sets.items in
    let none : [] ≡ slice_index_or sets c.from.result [] =
    item_read sets c.deref.result.now c.from.result None [] c.deref.ensures.value c.in-None.ensures.lookup.4 in
    record { found = rw (← c.self.view_is, ← c.from.ensures, ← none) (no_core_there _ _) }
