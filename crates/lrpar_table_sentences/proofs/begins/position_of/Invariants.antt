use Rattle.std.proofs.Common.{◌≡◌, ◌+◌, drop, map}
use Rattle.std.specs.Option.{option_map}
use Rattle.lrpar_grammar.specs.Symbols.{symbol_of}
use Rattle.lrpar_table_sentences.specs.Choices.{choices_of}
use Rattle.lrpar_table_sentences.specs.Starts.{begin_index, starts_of}
use Rattle.lrpar_table_sentences.proofs.begins.position_of.Given as goal

-- the place is that of the symbols that are left, plus the number of symbols so far
abbrev pub invariant-loop-place : goal.invariant-loop-place
invariant-loop-place g l =
    let index = g.StorageT.StorageIndex.index in
    let symbols = map (symbol_of index) l.symbols in
    option_map (λ n. l.place + n) (begin_index (choices_of index l.choices) (starts_of index l.starts) (index l.first.0) (drop l.place symbols))
    ≡ begin_index (choices_of index l.choices) (starts_of index l.starts) (index l.first.0) symbols
