use Rattle.std.proofs.Common.{◌<◌, ◌/◌, ℕ, IsTrue}
use Rattle.lrpar_grammar.specs.Words.{token_bit}
use Rattle.lrpar_grammar.proofs.token_set.cover_below.Given as goal

-- the words so far have the bits of the others
abbrev pub invariant-loop-k : goal.invariant-loop-k
invariant-loop-k l = (t : ℕ) → t / 64 < l.k → t < l.end → IsTrue (token_bit l.others t) → IsTrue (token_bit l.words t)
