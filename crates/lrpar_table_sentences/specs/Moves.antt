-- The moves by which a bottom-up parser reads a tree of tokens, each of which is its own lexeme.
use Rattle.std.specs.Prelude.{ℕ, List, [], ◌∷◌, ◌++◌, map}
use Rattle.lrpar_grammar.specs.Tree.{Tree, Forest, Leaf, Branch, Nil, Cons}
use Rattle.lrpar_table_sentences.specs.declared.moves.Move.{Move}
use Rattle.lrpar_table_sentences.specs.declared.moves.Move.TheVariants.{Make, Take}

-- to take a token, or to make the node of a production
pub data MoveOf : Type 0 where
  Takes : (token : ℕ) → MoveOf
  Makes : (prod : ℕ) → MoveOf

-- the moves of a tree, and of a list of trees: a leaf is taken; a node is made after its children, from left to right
abbrev mutual
  pub moves_of : Tree ℕ → List MoveOf
  moves_of (Leaf t) = Takes t ∷ []
  moves_of (Branch p children) = forest_moves children ++ Makes p ∷ []

  pub forest_moves : Forest ℕ → List MoveOf
  forest_moves Nil = []
  forest_moves (Cons t ts) = moves_of t ++ forest_moves ts

-- a move as it is stored, with its token or production by number
abbrev pub move_of : {S : Type 0} → (S → ℕ) → Move S → MoveOf
move_of index (Take t) = Takes (index t.0)
move_of index (Make p) = Makes (index p.0)

-- moves as they are stored, with their tokens and productions by number
abbrev pub moves_in : {S : Type 0} → (S → ℕ) → List (Move S) → List MoveOf
moves_in index moves = map (move_of index) moves
