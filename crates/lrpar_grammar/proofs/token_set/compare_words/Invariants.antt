use Rattle.std.proofs.Common.{◌≡◌, ◌<◌, ℕ}
use Rattle.lrpar_grammar.specs.Words.{word_at}
use Rattle.lrpar_grammar.proofs.token_set.compare_words.Given as goal

-- the words so far are the same
abbrev pub invariant-loop-k : goal.invariant-loop-k
invariant-loop-k l = (k : ℕ) → k < l.k → word_at l.words k ≡ word_at l.others k
