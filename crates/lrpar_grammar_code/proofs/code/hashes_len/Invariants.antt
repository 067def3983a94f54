use Rattle.std.proofs.Common.{◌≡◌, ◌<◌, ◌==◌, ℕ, get_or, true}
use Rattle.lrpar_grammar_code.proofs.code.hashes_len.Given as goal

-- the bytes before are `#`
abbrev pub invariant-loop-i : goal.invariant-loop-i
invariant-loop-i l = (k : ℕ) → k < l.i → (get_or l.text k 0 == 35) ≡ true
