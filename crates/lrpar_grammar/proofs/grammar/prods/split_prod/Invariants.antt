use Rattle.std.proofs.Common.{◌≡◌, map, take}
use Rattle.lrpar_grammar.proofs.grammar.prods.split_prod.Given as goal

-- the pairs so far are split
abbrev pub invariant-loop-symbol : goal.invariant-loop-symbol
invariant-loop-symbol g l = record {
  symbols : l.symbols.items ≡ map (λ x. x.0) (take l.symbol-index l.part.symbols.items);
  spans : l.symbol_spans.items ≡ map (λ x. x.1) (take l.symbol-index l.part.symbols.items);
}
