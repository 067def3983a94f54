use Rattle.std.proofs.Common.{◌∷◌, ap, map, ◌∙◌, sym}
use Rattle.std.proofs.lemmas.List.{take_all}
use Rattle.std.proofs.lemmas.Simd.{map-map}
use Rattle.lrpar_grammar_reader.specs.Grammar.{rule_of, rules_len}
use Rattle.lrpar_grammar_reader.specs.Symbols.{symbol_of}
use Rattle.lrpar_grammar.specs.Spelled.{symbol_number}
use Rattle.lrpar_grammar.proofs.grammar.value.YaccGrammar.numbers.Goals as goal

pub returns : goal.returns
returns g c =
    let grm = c.args.self.now in
    let index = g.StorageT.StorageIndex.index in
    let items = c.prod-symbol-items.result.now in
    c.loop-symbol.invariant
    ∙ ap (λ s. rule_of grm (index c.args.pidx.0) ∷ s)
    (ap (map (λ s. symbol_number (rules_len grm) (symbol_of index s))) (take_all c.loop-symbol.symbol-index items c.loop-symbol-test.false)
    ∙ sym (map-map (symbol_number (rules_len grm)) (symbol_of index) items) ∙ ap (map (symbol_number (rules_len grm))) c.prod-symbol-items.ensures)
