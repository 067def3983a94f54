use Rattle.std.proofs.Common.{◌≡◌, ◌++◌, length, map}
use Rattle.std.specs.List.{AllByRecursion, flat_map}
use Rattle.std.specs.String.{string_bytes}
use Rattle.lrpar_grammar.specs.Symbols.{symbol_of}
use Rattle.lrpar_conflict_examples.specs.Fits.{IsSymbolOf}
use Rattle.lrpar_conflict_examples.specs.Words.{symbol_text}
use Rattle.lrpar_conflict_examples.proofs.words.push_symbols.Given as goal

-- with the symbols that are left, the text so far is the whole
abbrev pub invariant-loop-symbol : goal.invariant-loop-symbol
invariant-loop-symbol g l =
    let index = g.StorageT.StorageIndex.index in
    record {
      fit : AllByRecursion (IsSymbolOf l.grm) (map (symbol_of index) l.rest);
      whole : string_bytes l.out ++ flat_map (symbol_text l.grm) (map (symbol_of index) l.rest)
          ≡ string_bytes l.fn.out ++ flat_map (symbol_text l.grm) (map (symbol_of index) l.fn.symbols);
    }

abbrev pub decreases-loop-symbol : goal.decreases-loop-symbol
decreases-loop-symbol g l = length l.rest
