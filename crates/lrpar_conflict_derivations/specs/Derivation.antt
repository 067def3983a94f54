-- How far a bottom-up parse of a derivation has come. Derivations are trees of tokens, each of which is its own lexeme.
use Rattle.std.specs.Prelude.{◌≡◌, ◌⊎◌, ℕ, List, [], ◌∷◌, ◌++◌}
use Rattle.lrpar_grammar.specs.Grammar.{Grammar, Nonterminal, end_token}
use Rattle.lrpar_grammar.specs.Tree.{Forest, Tree, forest_leaves, leaves}
use Rattle.lrpar_table_sentences.specs.Moves.{MoveOf, forest_moves, moves_of}
use Rattle.lrpar_table_sentences.specs.Texts.{AreTreesOf, IsTreeOf}
use Rattle.lrpar_table_sentences.specs.AccessStrings.{StepOf, symbols_in}

-- the token comes next in a text: it is the first token, or it is the end token, and the text is empty
abbrev pub IsNext : Grammar → ℕ → List ℕ → Type 0
IsNext g token text = ((rest : List ℕ) × (text ≡ token ∷ rest)) ⊎ ((token ≡ end_token g) × (text ≡ []))

-- These moves are a derivation: those of a tree of the start rule. The tree's text is `before` and a rest, in which the token comes next.
-- Once `before` is consumed, these trees are made of it, and the next move is this one
pub record IsDerivation (g : Grammar) (before : List ℕ) (token : ℕ) (trees : Forest ℕ) (next : MoveOf) (moves : List MoveOf) (tree : Tree ℕ) : Type 0 where
  pub fits : IsTreeOf g (Nonterminal g.start) tree
  pub moves_are : moves ≡ moves_of tree
  pub later : List MoveOf
  pub comes : moves ≡ forest_moves trees ++ next ∷ later
  pub rest : List ℕ
  pub text : leaves tree ≡ before ++ rest
  pub ahead : IsNext g token rest

-- if these first moves are those of trees of the steps' symbols, the moves are a derivation that begins with them, goes on with this move, and
-- has the token next
abbrev pub Derives : Grammar → List StepOf → ℕ → List MoveOf → MoveOf → List MoveOf → Type 0
Derives g steps token front next moves =
    (trees : Forest ℕ) → AreTreesOf g (symbols_in steps) trees → front ≡ forest_moves trees
    → (tree : Tree ℕ) × IsDerivation g (forest_leaves trees) token trees next moves tree
