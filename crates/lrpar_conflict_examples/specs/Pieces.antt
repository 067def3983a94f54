-- The pieces of the text of a tree, from right to left.
use Rattle.std.specs.Prelude.{◌≡◌, ◌<◌, ℕ, All, List, [], ◌∷◌, ◌++◌, codes, replicate}
use Rattle.std.specs.declared.vec.Vec.{Vec}
use Rattle.lrpar_grammar.specs.Grammar.{Grammar, prod_len, prods_len, tokens_len}
use Rattle.lrpar_grammar.specs.Tree.{Tree}
use Rattle.lrpar_table_sentences.specs.Moves.{MoveOf, moves_in}
use Rattle.lrpar_table_sentences.specs.declared.moves.Move.{Move}
use Rattle.lrpar_table_sentences.specs.declared.moves.Move.TheVariants.{Make, Take}
use Rattle.lrpar_conflict_examples.specs.Fits.{AreMovesOf}
use Rattle.lrpar_conflict_examples.specs.Words.{front_text, tree_text, word_text}
use Rattle.lrpar_conflict_examples.specs.declared.pieces.Piece.{Piece}
use Rattle.lrpar_conflict_examples.specs.declared.pieces.Piece.TheVariants.{End, Front, Word}
use Rattle.lrpar_conflict_examples.specs.declared.pieces.Waiting.{Waiting}
use Rattle.lrpar_conflict_examples.specs.declared.pieces.Waiting.TheVariants as waits

-- the token or the production of a piece is one of the grammar
abbrev pub PieceFits : {S : Type 0} → (S → ℕ) → Grammar → Piece S → Type 0
PieceFits index g (Word t) = index t.0 < tokens_len g
PieceFits index g (Front p) = index p.0 < prods_len g
PieceFits index g End = Unit {0}

-- the token or the production of each piece is one of the grammar
abbrev pub PiecesFit : {S A : Type 0} → (S → ℕ) → Grammar → Vec (Piece S) A → Type 0
PiecesFit index g = λ pieces. All (PieceFits index g) pieces.items

-- the text of a piece
abbrev pub piece_text : {S : Type 0} → (S → ℕ) → Grammar → Piece S → List ℕ
piece_text index g (Word t) = word_text g (index t.0)
piece_text index g (Front p) = front_text g (index p.0)
piece_text index g End = codes " ]"

-- the text of pieces that are listed from right to left
abbrev pub backward_text : {S : Type 0} → (S → ℕ) → Grammar → List (Piece S) → List ℕ
backward_text index g [] = []
backward_text index g (x ∷ xs) = backward_text index g xs ++ piece_text index g x

-- the pieces are the text of the tree that has these moves
abbrev pub AreTextOf : {S : Type 0} → (S → ℕ) → Grammar → List MoveOf → List (Piece S) → Type 0
AreTextOf index g moves pieces = (tree : Tree ℕ) → AreMovesOf g moves tree → backward_text index g pieces ≡ tree_text g tree

-- the vector of pieces is the text of the tree that has these moves, as they are stored
abbrev pub AreTextOfMoves : {S A : Type 0} → (S → ℕ) → Grammar → List (Move S) → Vec (Piece S) A → Type 0
AreTextOfMoves index g moves = λ pieces. AreTextOf index g (moves_in index moves) pieces.items

-- this number of trees was appended to what waits
abbrev pub AddsTrees : {S A : Type 0} → ℕ → Vec (Waiting S) A → Vec (Waiting S) A → Type 0
AddsTrees count old new = new.items ≡ old.items ++ replicate count waits.Tree

-- a tree is begun at its last move, and read from right to left: a token adds its word; a node adds its end, and its trees wait, and after
-- them its front
abbrev pub Meets : {S : Type 0} → (S → ℕ) → Grammar → Move S → List (Piece S) → List (Piece S) → List (Waiting S) → List (Waiting S) → Type 0
Meets index g (Take t) old new left waiting = (new ≡ old ++ Word t ∷ []) × (waiting ≡ left)
Meets index g (Make p) old new left waiting =
    (new ≡ old ++ End ∷ []) × (waiting ≡ (left ++ waits.Before p ∷ []) ++ replicate (prod_len g (index p.0)) waits.Tree)

-- a tree is begun at its last move, with vectors of pieces and of what waits
abbrev pub MeetsMove : {S A : Type 0} → (S → ℕ) → Grammar → Move S → Vec (Piece S) A → Vec (Piece S) A → Vec (Waiting S) A → Vec (Waiting S) A → Type 0
MeetsMove index g step old new left waiting = Meets index g step old.items new.items left.items waiting.items
