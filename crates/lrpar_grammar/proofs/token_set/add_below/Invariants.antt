use Rattle.std.proofs.Common.{◌≡◌, ◌<◌, ◌≤◌, ◌/◌, ◌||◌, ◌&&◌, ℕ, length, nat_lt}
use Rattle.lrpar_grammar.specs.Words.{token_bit}
use Rattle.lrpar_grammar.proofs.token_set.add_below.Given as goal

-- the words so far have the bits, and the later ones are as they were
abbrev pub invariant-loop-k : goal.invariant-loop-k
invariant-loop-k l =
    (length l.words.items ≡ length l.initial.words.items)
    × ((t : ℕ) → t / 64 < l.k → token_bit l.words.items t ≡ (token_bit l.initial.words.items t || (nat_lt t l.end && token_bit l.others t)))
    × ((t : ℕ) → l.k ≤ t / 64 → token_bit l.words.items t ≡ token_bit l.initial.words.items t)
