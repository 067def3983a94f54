use Rattle.std.proofs.Common.{◌≡◌, ◌<◌, ℕ}
use Rattle.std.specs.Prelude.{bit_and}
use Rattle.lrpar_grammar.specs.Words.{word_at}
use Rattle.lrpar_grammar.proofs.token_set.have_common.Given as goal

-- the words so far have no bit in common
abbrev pub invariant-loop-k : goal.invariant-loop-k
invariant-loop-k l = (k : ℕ) → k < l.k → bit_and (word_at l.words k) (word_at l.others k) ≡ 0
