use Rattle.std.proofs.Common.{◌≡◌, ◌+◌, ◌||◌, ℕ, length, map, drop}
use Rattle.lrpar_grammar.specs.Symbols.{symbol_of}
use Rattle.lrpar_table_first.specs.FirstRows.{begins, rows_of}
use Rattle.lrpar_grammar.specs.Tokens.{has}
use Rattle.lrpar_table_first.proofs.first.add_first.Given as goal

-- what was added so far, and what the symbols from here on begin with, is all
abbrev pub invariant-loop-symbol : goal.invariant-loop-symbol
invariant-loop-symbol g l =
    let symbols = map (symbol_of g.StorageT.StorageIndex.index) l.symbols in
    (length l.front ≡ l.dummy + 1)
    × ((t : ℕ) → (has l.front t || begins l.dummy (rows_of l.sets) (drop l.symbol-index symbols) t)
    ≡ (has l.initial.front t || begins l.dummy (rows_of l.sets) symbols t))
