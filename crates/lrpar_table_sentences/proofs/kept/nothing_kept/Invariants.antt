use Rattle.std.proofs.Common.{◌≡◌, None, replicate}
use Rattle.lrpar_table_sentences.proofs.kept.nothing_kept.Given as goal

-- nothing, for those so far
abbrev pub invariant-loop : goal.invariant-loop
invariant-loop g l = l.kept.items ≡ replicate l.counter None
