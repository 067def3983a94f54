use Rattle.std.proofs.Common.{◌≡◌, ◌∷◌, map, take}
use Rattle.lrpar_grammar_reader.specs.Grammar.{rule_of, rules_len}
use Rattle.lrpar_grammar_reader.specs.Symbols.{symbol_of}
use Rattle.lrpar_grammar.specs.Spelled.{symbol_number}
use Rattle.lrpar_grammar.proofs.grammar.value.YaccGrammar.numbers.Given as goal

-- the rule and the symbols so far
abbrev pub invariant-loop-symbol : goal.invariant-loop-symbol
invariant-loop-symbol g l =
    let index = g.StorageT.StorageIndex.index in
    l.numbers.items ≡ rule_of l.self (index l.fn.pidx.0) ∷ map (λ s. symbol_number (rules_len l.self) (symbol_of index s)) (take l.symbol-index l.symbol-items)
