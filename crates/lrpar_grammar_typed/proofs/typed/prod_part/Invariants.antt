use Rattle.std.proofs.Common.{◌≡◌, map, take}
use Rattle.lrpar_grammar_reader.specs.Symbols.{symbol_of}
use Rattle.lrpar_grammar_typed.proofs.typed.prod_part.Given as goal

-- the symbols so far, and their places
abbrev pub invariant-loop-symbol : goal.invariant-loop-symbol
invariant-loop-symbol l =
    (map (λ x. symbol_of (λ n. n) x.0) l.symbols.items ≡ map (λ s. symbol_of (λ n. n) s.symbol) (take l.symbol-index l.prod.symbols.items)) ×
    (map (λ x. x.1) l.symbols.items ≡ map (λ s. s.span) (take l.symbol-index l.prod.symbols.items))
