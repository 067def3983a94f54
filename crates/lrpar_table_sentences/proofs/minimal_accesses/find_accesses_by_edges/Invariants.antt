use Rattle.std.proofs.Common.{◌^◌, ◌-◌}
use Rattle.lrpar_table_sentences.specs.AccessLens.{AreRightAccesses, open_accesses}
use Rattle.lrpar_table_sentences.specs.AccessStrings.{accesses_of}
use Rattle.lrpar_table_sentences.proofs.minimal_accesses.find_accesses_by_edges.Given as goal

abbrev pub invariant-levels : goal.invariant-levels
invariant-levels g l = AreRightAccesses l.stable (2 ^ 64 - 1) l.shortest (accesses_of g.StorageT.StorageIndex.index l.accesses.items)

-- how many states have nothing kept
abbrev pub decreases-levels : goal.decreases-levels
decreases-levels g l = open_accesses (accesses_of g.StorageT.StorageIndex.index l.accesses.items)
