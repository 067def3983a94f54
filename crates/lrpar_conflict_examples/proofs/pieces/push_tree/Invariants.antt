use Rattle.std.proofs.Common.{◌≡◌, ◌++◌, ℕ, All, length}
use Rattle.std.specs.String.{string_bytes}
use Rattle.lrpar_grammar.specs.Tree.{Tree}
use Rattle.lrpar_table_sentences.specs.Moves.{moves_in}
use Rattle.lrpar_conflict_examples.specs.Fits.{AreMovesOf}
use Rattle.lrpar_conflict_examples.specs.Pieces.{PieceFits, backward_text}
use Rattle.lrpar_conflict_examples.specs.Words.{tree_text}
use Rattle.lrpar_conflict_examples.proofs.pieces.push_tree.Given as goal

-- with the pieces that are left, the text so far is the whole
abbrev pub invariant-loop-piece : goal.invariant-loop-piece
invariant-loop-piece g l =
    let index = g.StorageT.StorageIndex.index in
    All (PieceFits index l.grm) l.pieces.items
    × ((tree : Tree ℕ) → AreMovesOf l.grm (moves_in index l.moves) tree
    → string_bytes l.out ++ backward_text index l.grm l.pieces.items ≡ string_bytes l.fn.out ++ tree_text l.grm tree)

abbrev pub decreases-loop-piece : goal.decreases-loop-piece
decreases-loop-piece g l = length l.pieces.items
