-- Folds of a derivation tree. A lexeme may have several values, and so may a rule over the values of its children.
use Rattle.std.specs.Prelude.{ℕ, List, [], ◌∷◌}
use Rattle.lrpar_grammar.specs.Grammar.{Grammar, rule_of}
use Rattle.lrpar_grammar.specs.Tree.{Tree, Forest, Leaf, Branch, Nil, Cons}

-- `leaf x v`: lexeme x has the value v. `node r vs v`: rule r has the value v over the children's values vs. A leaf folds
-- to a value of its lexeme, and an inner node to a value of its production's rule over values to which its children fold.
abbrev mutual
  pub Folds : {X V : Type 0} → (X → V → Type 0) → (ℕ → List V → V → Type 0) → Grammar → Tree X → V → Type 0
  Folds leaf node g (Leaf x) v = leaf x v
  Folds {V = V} leaf node g (Branch p children) v = (vs : List V) × ForestFolds leaf node g children vs × node (rule_of g p) vs v

  -- a list of trees folds to a list of values, place by place
  pub ForestFolds : {X V : Type 0} → (X → V → Type 0) → (ℕ → List V → V → Type 0) → Grammar → Forest X → List V → Type 0
  ForestFolds leaf node g Nil [] = Unit {0}
  ForestFolds leaf node g Nil (v ∷ vs) = ⊥
  ForestFolds leaf node g (Cons t ts) [] = ⊥
  ForestFolds leaf node g (Cons t ts) (v ∷ vs) = Folds leaf node g t v × ForestFolds leaf node g ts vs
