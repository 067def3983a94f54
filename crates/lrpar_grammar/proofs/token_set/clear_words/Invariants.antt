use Rattle.std.proofs.Common.{◌≡◌, ◌<◌, ℕ, slice_index_or}
use Rattle.lrpar_grammar.proofs.token_set.clear_words.Given as goal

-- the words so far are 0
abbrev pub invariant-loop-word : goal.invariant-loop-word
invariant-loop-word l = (k : ℕ) → k < l.word-index → slice_index_or l.word-items k 0 ≡ 0
