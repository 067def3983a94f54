-- The trees of a list are those of its items, one after the other: the tree ends with the production without symbols.
use Rattle.std.proofs.Common.{◌≡◌, ◌<◌, ◌∙◌, ◌⊎◌, inl, inr, refl, sym, ap, subst, ℕ, List, [], ◌∷◌}
use Rattle.lrpar_grammar.specs.Grammar.{Grammar, GrammarSymbol, Nonterminal, prods_len, rule_of, symbols_of}
use Rattle.lrpar_grammar.specs.Tree.{Tree, Forest, Leaf, Branch, Nil, Cons, Fits, ForestFits}
use Rattle.lrpar_grammar_typed.specs.ListTrees.{AreItems, AreListProds, IsListTree, ListsAreTrees, TreesAreLists, list_tree}

-- what the children of a node of the rule fit
abbrev FitsSide : {X : Type 0} → (X → ℕ) → Grammar → ℕ → GrammarSymbol → ℕ → ℕ → ℕ → Forest X → Type 0
FitsSide token g rule item none more p children =
    ((p ≡ none) × ForestFits token g children []) ⊎ ((p ≡ more) × ForestFits token g children (Nonterminal rule ∷ item ∷ []))

side : {X : Type 0} (token : X → ℕ) (g : Grammar) (rule : ℕ) (item : GrammarSymbol) (none more : ℕ) → AreListProds g rule item none more
    → (p : ℕ) (children : Forest X) → (p ≡ none) ⊎ (p ≡ more) → ForestFits token g children (symbols_of g p)
    → FitsSide token g rule item none more p children
side token g rule item none more prods p children (inl is) fits =
    inl (is, subst (ForestFits token g children) (ap (symbols_of g) is ∙ prods.none_is) fits)
side token g rule item none more prods p children (inr is) fits =
    inr (is, subst (ForestFits token g children) (ap (symbols_of g) is ∙ prods.more_is) fits)

-- one item more
longer : {X : Type 0} (token : X → ℕ) (g : Grammar) (item : GrammarSymbol) (none more p : ℕ) (t u : Tree X) → p ≡ more
    → Fits token g u item → IsListTree token g item none more t → IsListTree token g item none more (Branch p (Cons t (Cons u Nil)))
longer token g item none more p t u is fits list =
    (u ∷ list.0, (fits, list.1), ap (λ n. Branch n (Cons t (Cons u Nil))) is ∙ ap (λ s. Branch more (Cons s (Cons u Nil))) list.2)

mutual
  pub trees_are_lists : (X : Type 0) → TreesAreLists X
  trees_are_lists X token g rule item none more prods (Leaf x) fits = absurd fits
  trees_are_lists X token g rule item none more prods (Branch p children) fits =
      by_children X token g rule item none more prods p children (side token g rule item none more prods p children (prods.only p fits.0 fits.1) fits.2)

  by_children : (X : Type 0) (token : X → ℕ) (g : Grammar) (rule : ℕ) (item : GrammarSymbol) (none more : ℕ) → AreListProds g rule item none more
      → (p : ℕ) (children : Forest X) → FitsSide token g rule item none more p children → IsListTree token g item none more (Branch p children)
  by_children X token g rule item none more prods p Nil (inl fits) = ([], tt {0}, ap (λ n. Branch n Nil) fits.0)
  by_children X token g rule item none more prods p Nil (inr fits) = absurd fits.1
  by_children X token g rule item none more prods p (Cons t Nil) (inl fits) = absurd fits.1
  by_children X token g rule item none more prods p (Cons t Nil) (inr fits) = absurd fits.1.1
  by_children X token g rule item none more prods p (Cons t (Cons u Nil)) (inl fits) = absurd fits.1
  by_children X token g rule item none more prods p (Cons t (Cons u Nil)) (inr fits) =
      longer token g item none more p t u fits.0 fits.1.1.0 (trees_are_lists X token g rule item none more prods t fits.1.0)
  by_children X token g rule item none more prods p (Cons t (Cons u (Cons v vs))) (inl fits) = absurd fits.1
  by_children X token g rule item none more prods p (Cons t (Cons u (Cons v vs))) (inr fits) = absurd fits.1.1.1

pub lists_are_trees : (X : Type 0) → ListsAreTrees X
lists_are_trees X token g rule item none more prods [] items =
    (prods.none_within, prods.none_of, subst (ForestFits token g Nil) (sym prods.none_is) (tt {0}))
lists_are_trees X token g rule item none more prods (t ∷ ts) items =
    let before = lists_are_trees X token g rule item none more prods ts items.1 in (
      prods.more_within,
      prods.more_of,
      subst (ForestFits token g (Cons (list_tree none more ts) (Cons t Nil))) (sym prods.more_is) (before, (items.0, tt {0})),
    )
