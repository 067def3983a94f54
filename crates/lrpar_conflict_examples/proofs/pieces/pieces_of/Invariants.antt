use Rattle.std.proofs.Common.{◌≤◌, ◌+◌, ◌*◌, ◌^◌, ℕ, All, length, take, vec_len}
use Rattle.lrpar_grammar.specs.Tree.{Tree}
use Rattle.lrpar_table_sentences.specs.Moves.{moves_in}
use Rattle.lrpar_conflict_examples.specs.Fits.{AreMovesOf}
use Rattle.lrpar_conflict_examples.specs.Pieces.{PieceFits, backward_text}
use Rattle.lrpar_conflict_examples.specs.Words.{tree_text}
use Rattle.lrpar_conflict_examples.proofs.PieceLemmas.{Walk}
use Rattle.lrpar_conflict_examples.proofs.pieces.pieces_of.Given as goal

-- what waits represents trees whose moves are those that are left, and whose texts, with the pieces, are the whole
abbrev pub invariant-nodes : goal.invariant-nodes
invariant-nodes g l =
    let index = g.StorageT.StorageIndex.index in
    All (PieceFits index l.grm) l.pieces.items × (l.left ≤ length l.moves)
    × ((tree : Tree ℕ) → AreMovesOf l.grm (moves_in index l.moves) tree
    → Walk index l.grm l.waiting.items (moves_in index (take l.left l.moves)) (backward_text index l.grm l.pieces.items) (tree_text l.grm tree))

-- a step takes up a move, or removes an entry that waits
abbrev pub decreases-nodes : goal.decreases-nodes
decreases-nodes g l = l.left * 2 ^ 64 + vec_len l.waiting
