use Rattle.std.proofs.Common.{◌≡◌, ◌<◌, ◌==◌, ℕ, get_or, false}
use Rattle.lrpar_grammar_code.proofs.code.line_len.Given as goal

-- no LF comes before
abbrev pub invariant-loop-i : goal.invariant-loop-i
invariant-loop-i l = (k : ℕ) → k < l.i → (get_or l.text k 0 == 10) ≡ false
