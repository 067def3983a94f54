use Rattle.std.proofs.Common.{◌^◌, ◌-◌}
use Rattle.lrpar_table_sentences.proofs.FixLemmas.{Fixing}
use Rattle.lrpar_table_sentences.proofs.minimal_sentences.keep_least.Given as goal

abbrev pub invariant-loop-prod : goal.invariant-loop-prod
invariant-loop-prod g l = Fixing g.StorageT.StorageIndex.index l.grm (2 ^ 64 - 1) l.len l.initial.choices l.choices l.prod
