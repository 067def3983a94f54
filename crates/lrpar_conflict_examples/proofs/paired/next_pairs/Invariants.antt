use Rattle.std.proofs.Common.{◌≡◌, ◌++◌, take}
use Rattle.lrpar_table_rows.specs.Table.{actions_at, gotos_at}
use Rattle.lrpar_conflict_examples.specs.Pairs.{goto_pairs, shift_pairs}
use Rattle.lrpar_conflict_examples.proofs.paired.next_pairs.Given as goal

-- the pairs by the shifts so far
abbrev pub invariant-shifts : goal.invariant-shifts
invariant-shifts g l =
    let index = g.StorageT.StorageIndex.index in
    l.pairs.items ≡ l.initial.pairs.items ++ shift_pairs l.other (index l.there.0) (take l.place (actions_at l.one (index l.here.0)))

-- the pairs by the gotos so far
abbrev pub invariant-gotos : goal.invariant-gotos
invariant-gotos g l =
    let index = g.StorageT.StorageIndex.index in
    l.pairs.items ≡ l.initial.pairs.items ++ goto_pairs l.other (index l.there.0) (take l.place (gotos_at l.one l.state))
