use Rattle.std.proofs.Common.{◌≡◌, map, take}
use Rattle.lrpar_grammar.specs.Symbols.{symbol_of}
use Rattle.lrpar_conflict_derivations.proofs.replay.are_same.Given as goal

-- the symbols so far are the same
abbrev pub invariant-loop-place : goal.invariant-loop-place
invariant-loop-place g l =
    let index = g.StorageT.StorageIndex.index in
    take l.place (map (symbol_of index) l.one) ≡ take l.place (map (symbol_of index) l.other)
