use Rattle.std.proofs.Common.{◌<◌, ◌+◌, ℕ, get_or}
use Rattle.lrpar_grammar_reader.specs.Grammar.{IsDeclaredSymbol}
use Rattle.lrpar_grammar_reader.specs.Symbols.{symbol_of}
use Rattle.lrpar_grammar_reader.proofs.parts.ProdPart.is_declared.Given as goal

-- the symbols so far are listed
abbrev pub invariant-loop-symbol : goal.invariant-loop-symbol
invariant-loop-symbol g l =
    (k : ℕ) (d : _) → k < l.symbol-index
    → IsDeclaredSymbol (l.rules + 1) l.tokens (symbol_of g.StorageT.StorageIndex.index (get_or l.self.symbols.items k d).0)
