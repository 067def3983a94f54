use Rattle.std.proofs.Common.{◌≡◌, ◌<◌, ℕ}
use Rattle.lrpar_grammar.specs.Words.{word_at}
use Rattle.lrpar_grammar.proofs.token_set.have_any.Given as goal

-- the words so far are 0
abbrev pub invariant-loop-word : goal.invariant-loop-word
invariant-loop-word l = (k : ℕ) → k < l.word-index → word_at l.words k ≡ 0
