use Rattle.std.proofs.Common.{◌≡◌, ◌++◌, ◌∷◌, drop, map, option_map}
use Rattle.lrpar_grammar_words.specs.Words.{placed}
use Rattle.lrpar_grammar.specs.Spelled.{numbers_named}
use Rattle.lrpar_grammar.proofs.grammar.symbol_names.SymbolNames.numbers_named.Given as goal

-- the numbers so far, and those of the other symbols
abbrev pub invariant-loop-word : goal.invariant-loop-word
invariant-loop-word l =
    numbers_named l.self (placed l.rule ∷ map placed l.symbols)
    ≡ option_map (λ ks. l.numbers.items ++ ks) (numbers_named l.self (drop l.word-index (map placed l.symbols)))
