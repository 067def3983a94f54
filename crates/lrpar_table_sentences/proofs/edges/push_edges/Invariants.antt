use Rattle.std.proofs.Common.{◌≡◌, ◌++◌, take}
use Rattle.lrpar_table_rows.specs.Table.{actions_at, gotos_at}
use Rattle.lrpar_table_sentences.specs.AccessLens.{edges_of, goto_edges, shift_edges}
use Rattle.lrpar_table_sentences.proofs.edges.push_edges.Given as goal

-- the shifts so far
abbrev pub invariant-shifts : goal.invariant-shifts
invariant-shifts g l =
    let index = g.StorageT.StorageIndex.index in
    let s = index l.s.0 in
    edges_of index l.edges.items ≡ edges_of index l.initial.edges.items ++ shift_edges l.shortest s (take l.place (actions_at l.stable s))

-- the gotos so far
abbrev pub invariant-gotos : goal.invariant-gotos
invariant-gotos g l =
    let index = g.StorageT.StorageIndex.index in
    let s = index l.s.0 in
    edges_of index l.edges.items ≡ edges_of index l.initial.edges.items ++ goto_edges l.shortest s (take l.place (gotos_at l.stable s))
