use Rattle.std.proofs.Common.{◌<◌, ◌+◌, ℕ, get_or}
use Rattle.lrpar_table_rows.specs.Graph.{HasItem}
use Rattle.lrpar_table_conditions.proofs.completeness_test.Completeness.has_advanced.Given as goal

-- the state has the advanced items so far
abbrev pub invariant-loop-place : goal.invariant-loop-place
invariant-loop-place g l =
    let index = g.StorageT.StorageIndex.index in
    (k : ℕ) (d : _) → k < l.place → HasItem l.self.sgraph.now (index l.next.0) (index l.pidx.0) (l.dot + 1) (index (get_or l.tokens k d).0)
