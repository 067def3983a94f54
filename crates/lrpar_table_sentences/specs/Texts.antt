-- The trees of tokens that fit symbols. A tree's tokens are a sentence of the symbols, and a minimal one if no tree has fewer.
use Rattle.std.specs.Prelude.{◌≡◌, ◌≤◌, ℕ, List, ◌∷◌, Option, Some, None, length, min}
use Rattle.lrpar_grammar.specs.Grammar.{Grammar, GrammarSymbol}
use Rattle.lrpar_grammar.specs.Tree.{Tree, Forest, Fits, ForestFits, leaves, forest_leaves}

-- the tree fits the symbol, each token being its own lexeme
abbrev pub IsTreeOf : Grammar → GrammarSymbol → Tree ℕ → Type 0
IsTreeOf g symbol tree = Fits (λ token. token) g tree symbol

-- the trees fit the symbols, one each
abbrev pub AreTreesOf : Grammar → List GrammarSymbol → Forest ℕ → Type 0
AreTreesOf g symbols trees = ForestFits (λ token. token) g trees symbols

-- how many tokens a tree has, and a list of trees
abbrev pub width : Tree ℕ → ℕ
width tree = length (leaves tree)

abbrev pub forest_width : Forest ℕ → ℕ
forest_width trees = length (forest_leaves trees)

-- the length of the symbols' minimal sentences, capped at `most`
pub record IsShortestLen (g : Grammar) (most : ℕ) (symbols : List GrammarSymbol) (len : ℕ) : Type 0 where
  pub some : (trees : Forest ℕ) × AreTreesOf g symbols trees × (min (forest_width trees) most ≡ len)
  pub least : (trees : Forest ℕ) → AreTreesOf g symbols trees → len ≤ forest_width trees

-- the length of the symbols' minimal sentences, capped at `most`; none if the symbols have no trees
abbrev pub IsShortestIfAny : Grammar → ℕ → List GrammarSymbol → Option ℕ → Type 0
IsShortestIfAny g most symbols None = (trees : Forest ℕ) → ¬ (AreTreesOf g symbols trees)
IsShortestIfAny g most symbols (Some len) = IsShortestLen g most symbols len

-- a tree of a minimal sentence of the symbol
pub record IsShortestTree (g : Grammar) (symbol : GrammarSymbol) (tree : Tree ℕ) : Type 0 where
  pub fits : IsTreeOf g symbol tree
  pub least : (other : Tree ℕ) → IsTreeOf g symbol other → width tree ≤ width other

-- trees of a minimal sentence of the symbols
pub record AreShortestTrees (g : Grammar) (symbols : List GrammarSymbol) (trees : Forest ℕ) : Type 0 where
  pub fit : AreTreesOf g symbols trees
  pub least : (others : Forest ℕ) → AreTreesOf g symbols others → forest_width trees ≤ forest_width others

-- each symbol has a tree
abbrev pub HaveTrees : Grammar → List GrammarSymbol → Type 0
HaveTrees g symbols = (trees : Forest ℕ) × AreTreesOf g symbols trees

-- trees of the symbols whose first token is this one
pub record BeginWith (g : Grammar) (symbols : List GrammarSymbol) (token : ℕ) (trees : Forest ℕ) : Type 0 where
  pub fit : AreTreesOf g symbols trees
  pub first : (rest : List ℕ) × (forest_leaves trees ≡ token ∷ rest)

-- there are trees of the symbols whose first token is this one
abbrev pub CanBeginWith : Grammar → List GrammarSymbol → ℕ → Type 0
CanBeginWith g symbols token = (trees : Forest ℕ) × BeginWith g symbols token trees
