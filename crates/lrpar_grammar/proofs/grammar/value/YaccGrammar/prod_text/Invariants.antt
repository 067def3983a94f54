use Rattle.std.proofs.Common.{◌≡◌, ◌∷◌, ◌++◌, map, string_bytes, take}
use Rattle.std.specs.List.{flat_map}
use Rattle.lrpar_grammar_reader.specs.Grammar.{rule_name, rule_of}
use Rattle.lrpar_grammar_reader.specs.Symbols.{symbol_of}
use Rattle.lrpar_grammar.specs.ProdText.{symbol_text}
use Rattle.lrpar_grammar.proofs.grammar.value.YaccGrammar.prod_text.Given as goal

-- the rule, the colon, and the symbols so far
abbrev pub invariant-loop-symbol : goal.invariant-loop-symbol
invariant-loop-symbol g l =
    let index = g.StorageT.StorageIndex.index in
    string_bytes l.text ≡ rule_name l.self (rule_of l.self (index l.fn.pidx.0)) ++ (58 ∷ flat_map (λ s. 32 ∷ symbol_text l.self s) (map (symbol_of index) (take l.symbol-index l.symbol-items)))
