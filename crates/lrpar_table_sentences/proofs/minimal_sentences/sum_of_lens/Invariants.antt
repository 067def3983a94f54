use Rattle.std.proofs.Common.{◌≡◌, ◌≤◌, ◌^◌, ◌-◌, Some, drop, map}
use Rattle.lrpar_grammar.specs.Symbols.{symbol_of}
use Rattle.lrpar_table_sentences.specs.Choices.{choices_of}
use Rattle.lrpar_table_sentences.specs.Lens.{added, sum_of_lens}
use Rattle.lrpar_table_sentences.proofs.minimal_sentences.sum_of_lens.Given as goal

-- the sum so far goes on with the symbols that are left
abbrev pub invariant-loop-symbol : goal.invariant-loop-symbol
invariant-loop-symbol g l =
    let index = g.StorageT.StorageIndex.index in
    let choices = choices_of index l.choices in
    let symbols = map (symbol_of index) l.symbols in
    (l.len ≤ 2 ^ 64 - 1) × (added (2 ^ 64 - 1) (Some l.len) (sum_of_lens (2 ^ 64 - 1) choices (drop l.symbol-index symbols)) ≡ sum_of_lens (2 ^ 64 - 1) choices symbols)
