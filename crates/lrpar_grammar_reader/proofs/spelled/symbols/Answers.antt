use Rattle.std.proofs.Common.{◌≡◌, true}
use Rattle.lrpar_grammar_words.specs.Words.{PlacedWord, placed}
use Rattle.lrpar_grammar_reader.specs.Spells.{symbol_of_word}
use Rattle.lrpar_grammar_reader.specs.Symbols.{symbol_of}
use Rattle.lrpar_grammar_reader.specs.TextNames.{has_number, numbering_by}
use Rattle.lrpar_grammar_reader.proofs.GrowthLemmas.{all_at, made_more}
use Rattle.lrpar_grammar_reader.proofs.spelled.symbols.Goals as goal

pub symbol-requires-clause-known : goal.symbol-requires-clause-known
symbol-requires-clause-known g c =
    all_at (λ (w : PlacedWord). has_number (numbering_by c.args.tables.now) w ≡ true) placed c.args.words.now c.loop-word.word-index _ c.loop-word-test.true c.requires.known

pub loop-word-preserved : goal.loop-word-preserved
loop-word-preserved g c =
    let words = c.args.words.now in
    let i = c.loop-word.word-index in
    let pairs = c.loop-word.pairs.items in
    let new = c.push.new.self.items in
    record {
      symbols = made_more placed (symbol_of_word (numbering_by c.args.tables.now)) (λ pair. symbol_of g.StorageT.StorageIndex.index pair.0) pairs new (c.symbol.result, c.span.result) words i _ c.loop-word-test.true
          c.in_ok-push.ensures.items c.symbol.ensures c.loop-word.invariant.symbols;
      spans = made_more placed (λ (w : PlacedWord). w.span) (λ pair. pair.1) pairs new (c.symbol.result, c.span.result) words i _ c.loop-word-test.true
          c.in_ok-push.ensures.items c.span.ensures c.loop-word.invariant.spans;
    }
