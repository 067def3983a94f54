use Rattle.std.proofs.Common.{◌≡◌, ◌<◌, ℕ}
use Rattle.lrpar_table_sentences.specs.AccessLens.{IsStoredAt, edges_below, edges_of}
use Rattle.lrpar_table_sentences.proofs.edges.edges.Given as goal

-- the steps of the states so far
abbrev pub invariant-loop-state : goal.invariant-loop-state
invariant-loop-state g l =
    (edges_of g.StorageT.StorageIndex.index l.edges.items ≡ edges_below l.stable l.shortest l.state)
    × ((s : ℕ) → s < l.state → IsStoredAt l.stable s)
