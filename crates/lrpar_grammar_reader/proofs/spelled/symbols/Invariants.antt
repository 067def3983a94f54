use Rattle.std.proofs.Common.{◌≡◌, map, take}
use Rattle.lrpar_grammar_words.specs.Words.{placed}
use Rattle.lrpar_grammar_reader.specs.Spells.{symbol_of_word}
use Rattle.lrpar_grammar_reader.specs.Symbols.{symbol_of}
use Rattle.lrpar_grammar_reader.specs.TextNames.{numbering_by}
use Rattle.lrpar_grammar_reader.proofs.spelled.symbols.Given as goal

-- the symbols so far, and their places
abbrev pub invariant-loop-word : goal.invariant-loop-word
invariant-loop-word g l = record {
  symbols : map (λ pair. symbol_of g.StorageT.StorageIndex.index pair.0) l.pairs.items ≡ map (symbol_of_word (numbering_by l.tables)) (take l.word-index (map placed l.words));
  spans : map (λ pair. pair.1) l.pairs.items ≡ map (λ w. w.span) (take l.word-index (map placed l.words));
}
