use Rattle.std.proofs.Common.{◌≡◌, drop, map}
use Rattle.lrpar_grammar.specs.Symbols.{symbol_of}
use Rattle.lrpar_table_stops.specs.ErrorStates.{end_of_path}
use Rattle.lrpar_table_stops.proofs.path.end_of_path.Given as goal

-- from the state that was reached, the symbols that are left lead where all lead from the first one
abbrev pub invariant-loop-symbol : goal.invariant-loop-symbol
invariant-loop-symbol g l =
    let index = g.StorageT.StorageIndex.index in
    end_of_path l.stable (index l.fn.state.0) (map (symbol_of index) l.symbols)
    ≡ end_of_path l.stable (index l.state.0) (map (symbol_of index) (drop l.symbol-index l.symbols))
