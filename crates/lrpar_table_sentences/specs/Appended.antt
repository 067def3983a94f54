-- What is appended to moves of the code: those of trees of symbols.
use Rattle.std.specs.Prelude.{◌≡◌, ℕ, List, [], ◌∷◌, ◌++◌, map}
use Rattle.std.specs.declared.vec.Vec.{Vec}
use Rattle.lrpar_grammar_places.specs.declared.span.Symbol.{Symbol}
use Rattle.lrpar_grammar_places.specs.declared.span.TIdx.{TIdx}
use Rattle.lrpar_grammar.specs.Grammar.{Grammar}
use Rattle.lrpar_grammar.specs.Symbols.{symbol_of}
use Rattle.lrpar_grammar.specs.Tree.{Tree, Forest}
use Rattle.lrpar_table_sentences.specs.Moves.{forest_moves, moves_in, moves_of}
use Rattle.lrpar_table_sentences.specs.Texts.{AreShortestTrees, BeginWith, CanBeginWith, HaveTrees, IsShortestTree}
use Rattle.lrpar_table_sentences.specs.declared.moves.Move.{Move}

-- the symbol has a tree, and each of a list of symbols has one
abbrev pub HasTreeOf : {S : Type 0} → (S → ℕ) → Grammar → Symbol S → Type 0
HasTreeOf index g symbol = HaveTrees g (symbol_of index symbol ∷ [])

abbrev pub HaveTreesOf : {S : Type 0} → (S → ℕ) → Grammar → List (Symbol S) → Type 0
HaveTreesOf index g symbols = HaveTrees g (map (symbol_of index) symbols)

-- the moves of the tree of a minimal sentence of the symbol are appended
abbrev pub AppendsShortestTree : {S A : Type 0} → (S → ℕ) → Grammar → Symbol S → Vec (Move S) A → Vec (Move S) A → Type 0
AppendsShortestTree index g symbol old new =
    (tree : Tree ℕ) × IsShortestTree g (symbol_of index symbol) tree × (moves_in index new.items ≡ moves_in index old.items ++ moves_of tree)

-- the moves of the trees of a minimal sentence of the symbols are appended
abbrev pub AppendsShortestTrees : {S A : Type 0} → (S → ℕ) → Grammar → List (Symbol S) → Vec (Move S) A → Vec (Move S) A → Type 0
AppendsShortestTrees index g symbols old new =
    (trees : Forest ℕ) × AreShortestTrees g (map (symbol_of index) symbols) trees × (moves_in index new.items ≡ moves_in index old.items ++ forest_moves trees)

-- there are trees of the symbols whose first token is this one
abbrev pub CanStartWith : {S : Type 0} → (S → ℕ) → Grammar → List (Symbol S) → TIdx S → Type 0
CanStartWith index g symbols first = CanBeginWith g (map (symbol_of index) symbols) (index first.0)

-- the moves of trees of the symbols whose first token is this one are appended
abbrev pub AppendsTreesWith : {S A : Type 0} → (S → ℕ) → Grammar → List (Symbol S) → TIdx S → Vec (Move S) A → Vec (Move S) A → Type 0
AppendsTreesWith index g symbols first old new =
    (trees : Forest ℕ) × BeginWith g (map (symbol_of index) symbols) (index first.0) trees
    × (moves_in index new.items ≡ moves_in index old.items ++ forest_moves trees)
