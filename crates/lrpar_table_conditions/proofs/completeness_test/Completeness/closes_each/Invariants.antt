use Rattle.std.proofs.Common.{◌≡◌}
use Rattle.lrpar_table_first.specs.FirstRows.{rows_of}
use Rattle.lrpar_table_conditions.specs.Itemwise.{ClosesAmong, HaveRoomFor}
use Rattle.lrpar_table_conditions.proofs.ItemwiseLemmas.{EachOfFirst}
use Rattle.lrpar_table_conditions.proofs.completeness_test.Completeness.closes_each.Given as goal

-- the sets of items with dot 0 are as they were, and the items of the cores so far are closed
abbrev pub invariant-loop-pidx : goal.invariant-loop-pidx
invariant-loop-pidx g l =
    let index = g.StorageT.StorageIndex.index in
    HaveRoomFor l.self.grm.now l.sets
    × (l.sets.starts.items ≡ l.fn.sets.starts.items)
    × EachOfFirst index l.self.sgraph.now (index l.s.0) (ClosesAmong l.self.grm.now (rows_of l.fn.sets.starts.items)) l.pidx-items l.pidx-index
