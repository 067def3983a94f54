use Rattle.std.proofs.Common.{◌≡◌, ◌<◌, ℕ, get_or, true}
use Rattle.lrpar_grammar_code.specs.Code.{is_in_word}
use Rattle.lrpar_grammar_code.proofs.code.name_len.Given as goal

-- the bytes before are of the name
abbrev pub invariant-loop-i : goal.invariant-loop-i
invariant-loop-i l = (k : ℕ) → k < l.i → is_in_word (get_or l.text k 0) ≡ true
