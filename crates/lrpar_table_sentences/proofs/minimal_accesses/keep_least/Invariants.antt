use Rattle.std.proofs.Common.{◌^◌, ◌-◌}
use Rattle.lrpar_table_sentences.proofs.AccessLemmas.{FixingAccesses}
use Rattle.lrpar_table_sentences.proofs.minimal_accesses.keep_least.Given as goal

abbrev pub invariant-loop-edge : goal.invariant-loop-edge
invariant-loop-edge g l = FixingAccesses g.StorageT.StorageIndex.index (2 ^ 64 - 1) l.len l.edges l.initial.accesses l.accesses l.edge-index
