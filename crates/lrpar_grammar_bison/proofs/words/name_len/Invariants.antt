use Rattle.std.proofs.Common.{◌≡◌, ◌<◌, ℕ, get_or, true}
use Rattle.lrpar_grammar_bison.specs.Words.{is_in_name}
use Rattle.lrpar_grammar_bison.proofs.words.name_len.Given as goal

-- the bytes before are of the name
abbrev pub invariant-loop-i : goal.invariant-loop-i
invariant-loop-i l = record {
  met : (k : ℕ) → k < l.i → is_in_name (get_or l.text k 0) ≡ true;
  ascii : (k : ℕ) → k < l.i → get_or l.text k 0 < 128;
}
