use Rattle.std.proofs.Common.{◌+◌, ◌++◌, [], ap, drop, map, option_map, sym, ◌∙◌}
use Rattle.lrpar_grammar_words.specs.declared.words.Word.{Word}
use Rattle.lrpar_grammar_words.specs.declared.words.WordKind.TheVariants.{Name}
use Rattle.lrpar_grammar_words.specs.Words.{placed}
use Rattle.lrpar_grammar.specs.Spelled.{numbers_named}
use Rattle.lrpar_grammar.proofs.SymbolNameLemmas.{named_more_code, unnamed_word_code}
use Rattle.lrpar_grammar.proofs.grammar.symbol_names.SymbolNames.numbers_named.Goals as goal

pub returns-in_default-number_named : goal.returns-in_default-number_named
returns-in_default-number_named c =
    let d : Word = record { kind = Name; name = record { ref_ptr = (0, 0); now = [] }; len = 0; end = 0 } in
    sym (c.loop-word.invariant ∙ unnamed_word_code c.args.self.now c.args.symbols.now c.loop-word.word-index d c.loop-word.numbers.items c.loop-word-test.true
    (sym c.number_named-in-loop-word.ensures ∙ c.in_default-number_named.is))

pub loop-word-preserved : goal.loop-word-preserved
loop-word-preserved c =
    let d : Word = record { kind = Name; name = record { ref_ptr = (0, 0); now = [] }; len = 0; end = 0 } in
    let words = c.args.symbols.now in
    c.loop-word.invariant
    ∙ named_more_code c.args.self.now words c.loop-word.word-index d c.loop-word.numbers.items c.in-Some-number_named.number c.loop-word-test.true
    (sym c.number_named-in-loop-word.ensures ∙ c.in-Some-number_named.is)
    ∙ ap (λ xs. option_map (λ ks. xs ++ ks) (numbers_named c.args.self.now (drop (c.loop-word.word-index + 1) (map placed words)))) (sym c.in_ok-push-2.ensures.items)
