use Rattle.std.proofs.Common.{map, take}
use Rattle.lrpar_grammar.specs.Symbols.{symbol_of}
use Rattle.lrpar_table_sentences.specs.Moves.{moves_in}
use Rattle.lrpar_conflict_derivations.proofs.ReplayLemmas.{HasMade}
use Rattle.lrpar_conflict_derivations.proofs.replay.are_of_tree.Given as goal

-- the moves so far made trees of the symbols
abbrev pub invariant-loop-step : goal.invariant-loop-step
invariant-loop-step g l =
    let index = g.StorageT.StorageIndex.index in
    HasMade l.grm (map (symbol_of index) l.stack.items) (moves_in index (take l.step-index l.moves))
