use Rattle.std.proofs.Common.{◌^◌, ◌-◌}
use Rattle.lrpar_table_sentences.specs.Choices.{choices_of}
use Rattle.lrpar_table_sentences.specs.Lens.{open_len}
use Rattle.lrpar_table_sentences.proofs.FixLemmas.{IsLeastBelow}
use Rattle.lrpar_table_sentences.proofs.minimal_sentences.least_open.Given as goal

-- the least of the productions so far
abbrev pub invariant-loop-prod : goal.invariant-loop-prod
invariant-loop-prod g l = IsLeastBelow (λ p. open_len l.grm (2 ^ 64 - 1) (choices_of g.StorageT.StorageIndex.index l.choices) p) l.prod l.least
