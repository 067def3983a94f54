use Rattle.std.proofs.Common.{◌==◌, ◌≤◌, ◌+◌, ◌*◌, if◌then◌else◌, length, take}
use Rattle.lrpar_grammar.specs.Grammar.{start_prod}
use Rattle.lrpar_table_sentences.specs.Moves.{moves_in}
use Rattle.lrpar_table_sentences.specs.AccessStrings.{steps_of, symbols_in}
use Rattle.lrpar_conflict_derivations.specs.Completion.{HasItemFor, state_before}
use Rattle.lrpar_conflict_derivations.proofs.AccessLemmas.{IsFinishing}
use Rattle.lrpar_conflict_derivations.proofs.completion.complete_derivation.Given as goal

-- the moves so far lead up to the production, at an item of the state of its place
abbrev pub invariant-up : goal.invariant-up
invariant-up g l =
    let index = g.StorageT.StorageIndex.index in
    let steps = steps_of index l.fn.steps in
    (l.place ≤ length steps)
    × HasItemFor l.graph (state_before steps (index l.fn.last.0) l.place) (index l.token.0) (index l.node.0) 0 l.asked
    × IsFinishing l.grm (index l.token.0) (symbols_in steps) (index l.fn.item.0.0) l.fn.item.1 l.fn.asked (moves_in index l.fn.out.items) (moves_in index l.out.items)
    (take l.place (symbols_in steps)) (index l.node.0) l.asked

abbrev pub decreases-up : goal.decreases-up
decreases-up g l = 2 * l.place + (if g.StorageT.StorageIndex.index l.node.0 == start_prod l.grm then 0 else 1)
