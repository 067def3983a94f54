use Rattle.std.proofs.Common.{◌+◌, ◌^◌, ◌-◌, ◌∙◌, arith, lit≤, sym, ap, Some, drop, map}
use Rattle.lrpar_grammar.specs.Symbols.{symbol_of}
use Rattle.lrpar_table_first.proofs.RowLemmas.{symbols_from}
use Rattle.lrpar_table_sentences.specs.Choices.{choices_of}
use Rattle.lrpar_table_sentences.specs.Lens.{added, sum_of_lens}
use Rattle.lrpar_table_sentences.proofs.LenLemmas.{symbols_done, total_ends, total_from_zero, total_more, total_stops}
use Rattle.lrpar_table_sentences.proofs.minimal_sentences.sum_of_lens.Goals as goal

pub loop-symbol-init : goal.loop-symbol-init
loop-symbol-init g c =
    let index = g.StorageT.StorageIndex.index in
    (lit≤ tt, total_from_zero (2 ^ 64 - 1) (choices_of index c.args.choices.now) (map (symbol_of index) c.args.symbols.now))

pub loop-symbol-preserved : goal.loop-symbol-preserved
loop-symbol-preserved g c =
    let index = g.StorageT.StorageIndex.index in
    let choices = choices_of index c.args.choices.now in
    let symbols = map (symbol_of index) c.args.symbols.now in
    let i = c.loop-symbol.symbol-index in
    let at = symbols_from index c.args.symbols.now i c.symbol-item.result c.loop-symbol-test.true c.symbol-item.is in (
      omega (arith, c.saturating_add-len.type_inv),
      ap (λ n. added (2 ^ 64 - 1) (Some n) (sum_of_lens (2 ^ 64 - 1) choices (drop (i + 1) symbols))) c.saturating_add-len.ensures
          ∙ total_more (2 ^ 64 - 1) choices (symbol_of index c.symbol-item.result) (drop (i + 1) symbols) (drop i symbols) c.loop-symbol.len c.in-Some.more _
          at (sym c.len_of.ensures ∙ c.in-Some.is) c.loop-symbol.invariant.1,
    )

pub returns-in-None : goal.returns-in-None
returns-in-None g c =
    let index = g.StorageT.StorageIndex.index in
    let choices = choices_of index c.args.choices.now in
    let symbols = map (symbol_of index) c.args.symbols.now in
    let i = c.loop-symbol.symbol-index in
    let at = symbols_from index c.args.symbols.now i c.symbol-item.result c.loop-symbol-test.true c.symbol-item.is in
    total_stops (2 ^ 64 - 1) choices (symbol_of index c.symbol-item.result) (drop (i + 1) symbols) (drop i symbols) c.loop-symbol.len _
    at (sym c.len_of.ensures ∙ c.in-None.is) c.loop-symbol.invariant.1

pub returns : goal.returns
returns g c =
    let index = g.StorageT.StorageIndex.index in
    total_ends (2 ^ 64 - 1) (choices_of index c.args.choices.now) _ c.loop-symbol.len _
    (symbols_done index c.args.symbols.now c.loop-symbol.symbol-index c.loop-symbol-test.false) c.loop-symbol.invariant.0 c.loop-symbol.invariant.1
