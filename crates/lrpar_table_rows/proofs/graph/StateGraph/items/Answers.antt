use Rattle.std.proofs.Common.{[], ◌≡◌, slice_index_or, ◌∙◌, length, ◌<◌}
use Rattle.std.proofs.lemmas.List.{get_or_default}
use Rattle.lrpar_table_rows.proofs.graph.StateGraph.items.Goals as goal

pub returns-clause-all : goal.returns-clause-all
returns-clause-all g c =
    let below : c.from.result < length c.self.inside.sets.items = rw c.from.ensures (rw (← c.self.view_is) at c.requires) in
    let read : c.index.result.now ≡ slice_index_or c.self.inside.sets.items c.from.result [] =
    c.index.ensures ∙ get_or_default c.self.inside.sets.items c.from.result c.index.result.now [] below in
    rw (← c.self.view_is, ← c.from.ensures, ← read) c.items.ensures.all

pub returns-clause-ascending : goal.returns-clause-ascending
returns-clause-ascending g c =
    let below : c.from.result < length c.self.inside.sets.items = rw c.from.ensures (rw (← c.self.view_is) at c.requires) in
    let read : c.index.result.now ≡ slice_index_or c.self.inside.sets.items c.from.result [] =
    c.index.ensures ∙ get_or_default c.self.inside.sets.items c.from.result c.index.result.now [] below in
    rw (← c.self.view_is, ← c.from.ensures, ← read) c.items.ensures.ascending
