use Rattle.std.proofs.Common.{◌≡◌, ◌<◌, ℕ, get_or, true}
use Rattle.lrpar_grammar_bison.specs.Words.{is_space}
use Rattle.lrpar_grammar_bison.proofs.words.space_len.Given as goal

-- the bytes before are blanks
abbrev pub invariant-loop-i : goal.invariant-loop-i
invariant-loop-i l = (k : ℕ) → k < l.i → is_space (get_or l.text k 0) ≡ true
