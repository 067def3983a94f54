use Rattle.std.proofs.Common.{◌≡◌, ◌++◌, take}
use Rattle.lrpar_table_rows.specs.Table.{actions_at, gotos_at}
use Rattle.lrpar_conflict_examples.specs.Met.{goto_steps, shift_steps}
use Rattle.lrpar_conflict_examples.proofs.met.push_steps.Given as goal

-- the shifts so far
abbrev pub invariant-shifts : goal.invariant-shifts
invariant-shifts g l =
    let s = g.StorageT.StorageIndex.index l.s.0 in
    l.edges.items ≡ l.initial.edges.items ++ shift_steps l.taken s (take l.place (actions_at l.stable s))

-- the gotos so far
abbrev pub invariant-gotos : goal.invariant-gotos
invariant-gotos g l =
    let s = g.StorageT.StorageIndex.index l.s.0 in
    l.edges.items ≡ l.initial.edges.items ++ goto_steps s (take l.place (gotos_at l.stable s))
