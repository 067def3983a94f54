use Rattle.std.proofs.Common.{◌≡◌, map, take}
use Rattle.lrpar_grammar_unmatched.proofs.copies.symbols_with_spans.Given as goal

-- the symbols and spans so far
abbrev pub invariant-loop-number : goal.invariant-loop-number
invariant-loop-number g l = record {
  symbols : map (λ pair. pair.0) l.pairs.items ≡ take l.number l.symbols;
  spans : map (λ pair. pair.1) l.pairs.items ≡ take l.number l.spans;
}
