use Rattle.std.proofs.Common.{◌≡◌, ◌<◌, ℕ, get_or, true}
use Rattle.lrpar_grammar_words.specs.Words.{is_digit}
use Rattle.lrpar_grammar_yacc.proofs.parts.digits_len.Given as goal

-- the bytes before are digits
abbrev pub invariant-loop-i : goal.invariant-loop-i
invariant-loop-i l = (k : ℕ) → k < l.i → is_digit (get_or l.text k 0) ≡ true
