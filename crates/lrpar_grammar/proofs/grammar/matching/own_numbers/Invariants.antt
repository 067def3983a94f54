use Rattle.std.proofs.Common.{◌≡◌, ◌<◌, ℕ, Some, None, get_or, length}
use Rattle.lrpar_grammar.proofs.grammar.matching.own_numbers.Given as goal

-- the numbers so far
abbrev pub invariant-loop-number : goal.invariant-loop-number
invariant-loop-number l = record {
  len : length l.numbers.items ≡ l.number;
  own : (p : ℕ) → p < l.number → get_or l.numbers.items p None ≡ Some p;
}
