use Rattle.std.proofs.Common.{◌≡◌, ◌+◌, option_map, drop}
use Rattle.lrpar_grammar_words.specs.Words.{closed_len}
use Rattle.lrpar_grammar_words.proofs.words.closed_len.Given as goal

-- no comment ends before
abbrev pub invariant-loop-i : goal.invariant-loop-i
invariant-loop-i l = closed_len l.text ≡ option_map (λ n. n + l.i) (closed_len (drop l.i l.text))
