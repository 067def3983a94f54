-- The trees of a list: each has the trees of its items, from the first to the last.
use Rattle.std.specs.Prelude.{◌≡◌, ◌<◌, ◌⊎◌, ℕ, List, [], ◌∷◌}
use Rattle.lrpar_grammar.specs.Grammar.{Grammar, GrammarSymbol, Nonterminal, prods_len, rule_of, symbols_of}
use Rattle.lrpar_grammar.specs.Tree.{Tree, Branch, Nil, Cons, Fits}

-- the rule has two productions: `none` is without symbols, and `more` has the rule itself and an item
pub record AreListProds (g : Grammar) (rule : ℕ) (item : GrammarSymbol) (none more : ℕ) : Type 0 where
  pub none_within : none < prods_len g
  pub none_of : rule_of g none ≡ rule
  pub none_is : symbols_of g none ≡ []
  pub more_within : more < prods_len g
  pub more_of : rule_of g more ≡ rule
  pub more_is : symbols_of g more ≡ Nonterminal rule ∷ item ∷ []
  pub only : (p : ℕ) → p < prods_len g → rule_of g p ≡ rule → (p ≡ none) ⊎ (p ≡ more)

-- the tree of a list with these items, the last one first
abbrev pub list_tree : {X : Type 0} → ℕ → ℕ → List (Tree X) → Tree X
list_tree none more [] = Branch none Nil
list_tree none more (t ∷ ts) = Branch more (Cons (list_tree none more ts) (Cons t Nil))

-- the trees are those of items
abbrev pub AreItems : {X : Type 0} → (X → ℕ) → Grammar → GrammarSymbol → List (Tree X) → Type 0
AreItems token g item [] = Unit {0}
AreItems token g item (t ∷ ts) = Fits token g t item × AreItems token g item ts

-- the tree is that of a list of items
abbrev pub IsListTree : {X : Type 0} → (X → ℕ) → Grammar → GrammarSymbol → ℕ → ℕ → Tree X → Type 0
IsListTree token g item none more tree = (trees : List (Tree _)) × AreItems token g item trees × (tree ≡ list_tree none more trees)

-- each tree of such a rule is that of a list of items
abbrev pub TreesAreLists : Type 0 → Type 0
TreesAreLists X = (token : X → ℕ) (g : Grammar) (rule : ℕ) (item : GrammarSymbol) (none more : ℕ) → AreListProds g rule item none more
    → (tree : Tree X) → Fits token g tree (Nonterminal rule) → IsListTree token g item none more tree

-- each list of items has such a tree
abbrev pub ListsAreTrees : Type 0 → Type 0
ListsAreTrees X = (token : X → ℕ) (g : Grammar) (rule : ℕ) (item : GrammarSymbol) (none more : ℕ) → AreListProds g rule item none more
    → (trees : List (Tree X)) → AreItems token g item trees → Fits token g (list_tree none more trees) (Nonterminal rule)
