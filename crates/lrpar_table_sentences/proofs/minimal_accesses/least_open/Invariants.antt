use Rattle.std.proofs.Common.{◌^◌, ◌-◌}
use Rattle.lrpar_table_sentences.specs.AccessLens.{edges_of}
use Rattle.lrpar_table_sentences.specs.AccessStrings.{accesses_of}
use Rattle.lrpar_table_sentences.proofs.FixLemmas.{IsLeastBelow}
use Rattle.lrpar_table_sentences.proofs.AccessLemmas.{open_at}
use Rattle.lrpar_table_sentences.proofs.minimal_accesses.least_open.Given as goal

-- the least of the steps so far
abbrev pub invariant-loop-edge : goal.invariant-loop-edge
invariant-loop-edge g l =
    let index = g.StorageT.StorageIndex.index in
    IsLeastBelow (open_at (2 ^ 64 - 1) (accesses_of index l.accesses) (edges_of index l.edges)) l.edge-index l.least
