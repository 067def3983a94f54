use Rattle.std.proofs.Common.{drop, map}
use Rattle.lrpar_grammar.specs.Symbols.{symbol_of}
use Rattle.lrpar_table_sentences.specs.Choices.{choices_of}
use Rattle.lrpar_table_sentences.specs.Moves.{moves_in}
use Rattle.lrpar_table_sentences.proofs.FrameLemmas.{Listing}
use Rattle.lrpar_table_sentences.proofs.unfold.push_symbols.Given as goal

abbrev pub invariant-loop-symbol : goal.invariant-loop-symbol
invariant-loop-symbol g l =
    let index = g.StorageT.StorageIndex.index in
    Listing l.grm (choices_of index l.choices) (map (symbol_of index) l.symbols) (drop l.symbol-index (map (symbol_of index) l.symbols))
    (moves_in index l.initial.out.items) (moves_in index l.out.items)
