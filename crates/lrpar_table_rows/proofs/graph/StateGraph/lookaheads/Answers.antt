use Rattle.std.proofs.Common.{[], ◌≡◌, None, Some, slice_index_or}
use Rattle.std.specs.Ordering.{nat_cmp}
use Rattle.lrpar_table_rows.proofs.TestLemmas.{item_read}
use Rattle.lrpar_table_rows.proofs.RunLemmas.{no_tokens_there, none_sorted}
use Rattle.lrpar_table_rows.proofs.graph.StateGraph.lookaheads.Goals as goal

pub returns-in-Some-clause-all : goal.returns-in-Some-clause-all
returns-in-Some-clause-all g c = λ t.
    let sets = c.self.inside.sets.items in
    let read : c.in-Some.set.now ≡ slice_index_or sets c.from.result [] =
    item_read sets c.deref.result.now c.from.result (Some c.in-Some.set.now) [] c.deref.ensures.value c.in-Some.ensures.lookup.4 in
    rw (← c.self.view_is, ← c.from.ensures, ← read) (c.lookaheads.ensures.all t)

pub returns-in-None-clause-all : goal.returns-in-None-clause-all
returns-in-None-clause-all g c = λ t.
    let sets = c.self.inside.sets.items in
    let none : [] ≡ slice_index_or sets c.from.result [] =
    item_read sets c.deref.result.now c.from.result None [] c.deref.ensures.value c.in-None.ensures.lookup.4 in
    rw (← c.self.view_is, ← c.from.ensures, ← none) (no_tokens_there t _)

pub returns-in-None-clause-ascending : goal.returns-in-None-clause-ascending
returns-in-None-clause-ascending g c = none_sorted nat_cmp
