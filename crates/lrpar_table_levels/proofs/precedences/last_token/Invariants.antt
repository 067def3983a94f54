use Rattle.std.proofs.Common.{◌≡◌, map, option_map, take}
use Rattle.lrpar_grammar.specs.Symbols.{symbol_of}
use Rattle.lrpar_table_levels.specs.Levels.{last_token}
use Rattle.lrpar_table_levels.proofs.precedences.last_token.Given as goal

-- the last token so far
abbrev pub invariant-loop-symbol : goal.invariant-loop-symbol
invariant-loop-symbol g l =
    option_map (λ t. g.StorageT.StorageIndex.index t.0) l.last ≡ last_token (map (symbol_of g.StorageT.StorageIndex.index) (take l.symbol-index l.symbols))
