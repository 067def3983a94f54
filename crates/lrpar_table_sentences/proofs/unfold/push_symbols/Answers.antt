use Rattle.std.proofs.Common.{◌+◌, drop, map}
use Rattle.lrpar_grammar.specs.Symbols.{symbol_of}
use Rattle.lrpar_table_first.proofs.RowLemmas.{symbols_from}
use Rattle.lrpar_table_sentences.specs.Choices.{choices_of}
use Rattle.lrpar_table_sentences.specs.Moves.{moves_in}
use Rattle.lrpar_table_sentences.proofs.FrameLemmas.{listing_ends, listing_goes}
use Rattle.lrpar_table_sentences.proofs.LenLemmas.{symbols_done}
use Rattle.lrpar_table_sentences.proofs.unfold.push_symbols.Goals as goal

pub loop-symbol-preserved : goal.loop-symbol-preserved
loop-symbol-preserved g c =
    let index = g.StorageT.StorageIndex.index in
    let choices = choices_of index c.args.choices.now in
    let symbols = map (symbol_of index) c.args.symbols.now in
    let i = c.loop-symbol.symbol-index in
    let at = symbols_from index c.args.symbols.now i c.symbol-item.result c.loop-symbol-test.true c.symbol-item.is in
    listing_goes c.args.grm.now choices symbols (moves_in index c.args.out.now.items) (symbol_of index c.symbol-item.result) (drop (i + 1) symbols) (drop i symbols)
    (moves_in index c.loop-symbol.out.items) (moves_in index c.push_symbol.new.out.items) at c.loop-symbol.invariant c.in_ok-push_symbol.ensures

pub returns : goal.returns
returns g c =
    let index = g.StorageT.StorageIndex.index in
    listing_ends c.args.grm.now (choices_of index c.args.choices.now) (map (symbol_of index) c.args.symbols.now) (moves_in index c.args.out.now.items) _
    (moves_in index c.loop-symbol.out.items) (symbols_done index c.args.symbols.now c.loop-symbol.symbol-index c.loop-symbol-test.false) c.loop-symbol.invariant
