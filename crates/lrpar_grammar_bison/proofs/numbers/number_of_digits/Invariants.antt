use Rattle.std.proofs.Common.{◌≡◌, ◌<◌, drop}
use Rattle.lrpar_grammar_bison.specs.Numbers.{number_after, number_of_digits}
use Rattle.lrpar_grammar_bison.proofs.numbers.number_of_digits.Given as goal

-- the digits that are left come after the number so far
abbrev pub invariant-loop-byte : goal.invariant-loop-byte
invariant-loop-byte l = record {
  is : number_of_digits l.base l.limit l.digits ≡ number_after l.base l.limit l.number (drop l.byte-index l.digits);
  few : l.number < l.limit;
}
