use Rattle.std.proofs.Common.{◌≡◌, map, take}
use Rattle.lrpar_grammar.specs.Symbols.{symbol_of}
use Rattle.lrpar_table_sentences.specs.AccessStrings.{steps_of, symbols_in}
use Rattle.lrpar_conflict_derivations.proofs.validation.symbols_of.Given as goal

-- the symbols so far
abbrev pub invariant-loop-step : goal.invariant-loop-step
invariant-loop-step g l =
    let index = g.StorageT.StorageIndex.index in map (symbol_of index) l.symbols.items ≡ symbols_in (steps_of index (take l.step-index l.steps))
