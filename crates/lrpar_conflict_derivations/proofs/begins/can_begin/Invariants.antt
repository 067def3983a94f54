use Rattle.std.proofs.Common.{◌≡◌, drop, map}
use Rattle.lrpar_grammar.specs.Symbols.{symbol_of}
use Rattle.lrpar_table_first.specs.FirstRows.{begins, rows_of}
use Rattle.lrpar_conflict_derivations.proofs.begins.can_begin.Given as goal

-- all symbols begin with the token if those that are left do
abbrev pub invariant-loop-symbol : goal.invariant-loop-symbol
invariant-loop-symbol g l =
    let symbols = map (symbol_of g.StorageT.StorageIndex.index) l.symbols in
    begins l.dummy (rows_of l.firsts) symbols l.token ≡ begins l.dummy (rows_of l.firsts) (drop l.symbol-index symbols) l.token
