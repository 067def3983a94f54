use Rattle.std.proofs.Common.{◌≡◌, map, take}
use Rattle.lrpar_grammar_typed.proofs.forms.typed_symbols.Given as goal

-- the symbols so far
abbrev pub invariant-loop-symbol : goal.invariant-loop-symbol
invariant-loop-symbol l = map (λ s. s.symbol) l.typed.items ≡ take l.symbol-index l.symbols
