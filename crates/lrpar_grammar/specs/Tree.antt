-- Derivation trees over lexemes of any kind.
use Rattle.std.specs.Prelude.{◌≡◌, ◌<◌, ℕ, List, [], ◌∷◌, ◌++◌}
use Rattle.lrpar_grammar_reader.specs.Grammar.{Grammar, GrammarSymbol, Nonterminal, Terminal, prods_len, symbols_of, rule_of}

-- a leaf is a lexeme, and an inner node is a production with its children
mutual
  pub data Tree (X : Type 0) : Type 0 where
    Leaf : (lexeme : X) → Tree X
    Branch : (prod : ℕ) (children : Forest X) → Tree X

  pub data Forest (X : Type 0) : Type 0 where
    Nil : Forest X
    Cons : (first : Tree X) (others : Forest X) → Forest X

-- the lexemes of a tree, and of a list of trees, from left to right
abbrev mutual
  pub leaves : {X : Type 0} → Tree X → List X
  leaves (Leaf x) = x ∷ []
  leaves (Branch p children) = forest_leaves children

  pub forest_leaves : {X : Type 0} → Forest X → List X
  forest_leaves Nil = []
  forest_leaves (Cons t ts) = leaves t ++ forest_leaves ts

-- the productions of a tree, and of a list of trees: first those of the children from left to right, then the node's own
abbrev mutual
  pub productions : {X : Type 0} → Tree X → List ℕ
  productions (Leaf x) = []
  productions (Branch p children) = forest_productions children ++ p ∷ []

  pub forest_productions : {X : Type 0} → Forest X → List ℕ
  forest_productions Nil = []
  forest_productions (Cons t ts) = productions t ++ forest_productions ts

-- A leaf fits its lexeme's token. A node fits its production's rule if it has as many children as the production has
-- symbols, and each child fits the symbol at its place.
abbrev mutual
  pub Fits : {X : Type 0} → (X → ℕ) → Grammar → Tree X → GrammarSymbol → Type 0
  Fits token g (Leaf x) (Terminal t) = token x ≡ t
  Fits token g (Leaf x) (Nonterminal r) = ⊥
  Fits token g (Branch p children) (Nonterminal r) = (p < prods_len g) × (rule_of g p ≡ r) × ForestFits token g children (symbols_of g p)
  Fits token g (Branch p children) (Terminal t) = ⊥

  pub ForestFits : {X : Type 0} → (X → ℕ) → Grammar → Forest X → List GrammarSymbol → Type 0
  ForestFits token g Nil [] = Unit {0}
  ForestFits token g Nil (s ∷ ss) = ⊥
  ForestFits token g (Cons t ts) [] = ⊥
  ForestFits token g (Cons t ts) (s ∷ ss) = Fits token g t s × ForestFits token g ts ss
