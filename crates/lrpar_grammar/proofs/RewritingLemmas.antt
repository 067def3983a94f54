-- Derivation trees and rewriting agree. The leaves of a tree are derived by rewriting its nodes from the top, the children of
-- a node from left to right. From a derivation, trees are built from its end: there each token is a leaf, and each step backwards
-- makes the trees of a production's symbols the children of one node.
use Rattle.std.proofs.Common.{◌≡◌, ◌<◌, ◌∙◌, refl, sym, ap, subst, ℕ, zero, suc, List, [], ◌∷◌, ◌++◌}
use Rattle.std.proofs.lemmas.List.{append-nil, append_assoc, map-append}
use Rattle.lrpar_grammar_reader.specs.Grammar.{Grammar, GrammarSymbol, Nonterminal, Terminal, prods_len, rule_of, symbols_of}
use Rattle.lrpar_grammar.specs.Tree.{Tree, Forest, Leaf, Branch, Nil, Cons, leaves, forest_leaves, Fits, ForestFits}
use Rattle.lrpar_grammar.specs.Rewriting.{Rewrites, DerivesIn, Derives, terminals, LeavesAreDerived, DerivedAreLeaves}
use Rattle.lrpar_grammar.proofs.ForestLemmas.{joined, joined_leaves, joined_fits, splits, split_leaves, leaf_forest, leaf_forest_leaves}

-- a step before more symbols
rewrites_before : (g : Grammar) (form next rest : List GrammarSymbol) → Rewrites g form next → Rewrites g (form ++ rest) (next ++ rest)
rewrites_before g form next rest h =
    record {
      before = h.before;
      prod = h.prod;
      after = h.after ++ rest;
      known = h.known;
      from = ap (λ ss. ss ++ rest) h.from ∙ append_assoc h.before (Nonterminal (rule_of g h.prod) ∷ h.after) rest;
      to = ap (λ ss. ss ++ rest) h.to ∙ append_assoc (h.before ++ symbols_of g h.prod) h.after rest;
    }

-- a step after more symbols
rewrites_after : (g : Grammar) (front form next : List GrammarSymbol) → Rewrites g form next → Rewrites g (front ++ form) (front ++ next)
rewrites_after g front form next h =
    record {
      before = front ++ h.before;
      prod = h.prod;
      after = h.after;
      known = h.known;
      from = ap (λ ss. front ++ ss) h.from ∙ sym (append_assoc front h.before (Nonterminal (rule_of g h.prod) ∷ h.after));
      to = ap (λ ss. front ++ ss) h.to ∙ sym (append_assoc front (h.before ++ symbols_of g h.prod) h.after)
          ∙ ap (λ ss. ss ++ h.after) (sym (append_assoc front h.before (symbols_of g h.prod)));
    }

-- a derivation before more symbols
derives_before : (g : Grammar) (n : ℕ) (form last rest : List GrammarSymbol) → DerivesIn g n form last → DerivesIn g n (form ++ rest) (last ++ rest)
derives_before g zero form last rest h = ap (λ ss. ss ++ rest) h
derives_before g (suc n) form last rest h = (h.0 ++ rest, rewrites_before g form h.0 rest h.1, derives_before g n h.0 last rest h.2)

-- a derivation after more symbols
derives_after : (g : Grammar) (n : ℕ) (front form last : List GrammarSymbol) → DerivesIn g n form last → DerivesIn g n (front ++ form) (front ++ last)
derives_after g zero front form last h = ap (λ ss. front ++ ss) h
derives_after g (suc n) front form last h = (front ++ h.0, rewrites_after g front form h.0 h.1, derives_after g n front h.0 last h.2)

-- one derivation after another
one_after : (g : Grammar) (n : ℕ) (form middle last : List GrammarSymbol) → DerivesIn g n form middle → Derives g middle last → Derives g form last
one_after g zero form middle last h more = subst (λ ss. Derives g ss last) (sym h) more
one_after g (suc n) form middle last h more =
    let rest = one_after g n h.0 middle last h.2 more in
    (suc rest.0, (h.0, h.1, rest.1))

-- two derivations side by side
side_by_side : (g : Grammar) (s : GrammarSymbol) (ss first others : List GrammarSymbol)
    → Derives g (s ∷ []) first → Derives g ss others → Derives g (s ∷ ss) (first ++ others)
side_by_side g s ss first others left right =
    let start = derives_before g left.0 (s ∷ []) first ss left.1 in
    let rest : Derives g (first ++ ss) (first ++ others) = (right.0, derives_after g right.0 first ss others right.1) in
    one_after g left.0 (s ∷ ss) (first ++ ss) (first ++ others) start rest

module _ {X : Type 0} (token : X → ℕ) (g : Grammar) where
  -- the leaves of a tree are derived from the symbol that it fits, and those of a list of trees from its symbols
  mutual
    pub tree_is_derived : (tree : Tree X) (s : GrammarSymbol) → Fits token g tree s → Derives g (s ∷ []) (terminals token (leaves tree))
    tree_is_derived (Leaf x) (Terminal t) fits = (0, ap (λ n. Terminal n ∷ []) (sym fits))
    tree_is_derived (Leaf x) (Nonterminal r) fits = absurd fits
    tree_is_derived (Branch p children) (Terminal t) fits = absurd fits
    tree_is_derived (Branch p children) (Nonterminal r) fits =
        let rest = forest_is_derived children (symbols_of g p) fits.2 in
        let step : Rewrites g (Nonterminal r ∷ []) (symbols_of g p) = record {
          before = [];
          prod = p;
          after = [];
          known = fits.0;
          from = ap (λ n. Nonterminal n ∷ []) (sym fits.1);
          to = sym (append-nil (symbols_of g p));
        } in
        (suc rest.0, (symbols_of g p, step, rest.1))

    pub forest_is_derived : (ts : Forest X) (ss : List GrammarSymbol) → ForestFits token g ts ss → Derives g ss (terminals token (forest_leaves ts))
    forest_is_derived Nil [] fits = (0, refl)
    forest_is_derived Nil (s ∷ ss) fits = absurd fits
    forest_is_derived (Cons t ts) [] fits = absurd fits
    forest_is_derived (Cons t ts) (s ∷ ss) fits =
        let both = side_by_side g s ss (terminals token (leaves t)) (terminals token (forest_leaves ts)) (tree_is_derived t s fits.0) (forest_is_derived ts ss fits.1) in
        subst (λ form. Derives g (s ∷ ss) form) (sym (map-append (λ x. Terminal (token x)) (leaves t) (forest_leaves ts))) both

  -- trees that fit a form and have these leaves
  pub record HasForest (form : List GrammarSymbol) (lexemes : List X) : Type 0 where
    pub trees : Forest X
    pub fits : ForestFits token g trees form
    pub leaves : forest_leaves trees ≡ lexemes

  -- leaves alone fit their tokens
  leaf_forest_fits : (lexemes : List X) → ForestFits token g (leaf_forest lexemes) (terminals token lexemes)
  leaf_forest_fits [] = tt
  leaf_forest_fits (x ∷ xs) = (refl, leaf_forest_fits xs)

  -- the trees of a production's symbols become the children of one node, which fits its rule
  node_between : (p : ℕ) (before after : List GrammarSymbol) (lexemes : List X) → p < prods_len g → HasForest (before ++ symbols_of g p ++ after) lexemes
      → HasForest (before ++ Nonterminal (rule_of g p) ∷ after) lexemes
  node_between p before after lexemes known h =
      let outer = splits token g h.trees (before ++ symbols_of g p) after h.fits in
      let inner = splits token g outer.first before (symbols_of g p) outer.first_fits in
      let others = Cons (Branch p inner.others) outer.others in
      let joined_back = joined_leaves inner.first others in
      let regrouped = append_assoc (forest_leaves inner.first) (forest_leaves inner.others) (forest_leaves outer.others) in
      let split_inner = ap (λ xs. xs ++ forest_leaves outer.others) (split_leaves token g outer.first before (symbols_of g p) inner) in
      let split_outer = split_leaves token g h.trees (before ++ symbols_of g p) after outer in
      record {
        trees = joined inner.first others;
        fits = joined_fits token g inner.first others before (Nonterminal (rule_of g p) ∷ after) inner.first_fits ((known, refl, inner.others_fit), outer.others_fit);
        leaves = joined_back ∙ sym regrouped ∙ sym split_inner ∙ sym split_outer ∙ h.leaves;
      }

  -- a step backwards
  before_step : (form next : List GrammarSymbol) (lexemes : List X) → Rewrites g form next → HasForest next lexemes → HasForest form lexemes
  before_step form next lexemes step h =
      let replaced = subst (λ ss. HasForest ss lexemes) step.to h in
      subst (λ ss. HasForest ss lexemes) (sym step.from) (node_between step.prod step.before step.after lexemes step.known replaced)

  -- a form that derives the lexemes' tokens has trees with these leaves
  form_has_forest : (n : ℕ) (form : List GrammarSymbol) (lexemes : List X) → DerivesIn g n form (terminals token lexemes) → HasForest form lexemes
  form_has_forest zero form lexemes h =
      record {
        trees = leaf_forest lexemes;
        fits = subst (λ ss. ForestFits token g (leaf_forest lexemes) ss) (sym h) (leaf_forest_fits lexemes);
        leaves = leaf_forest_leaves lexemes;
      }
  form_has_forest (suc n) form lexemes h = before_step form h.0 lexemes h.1 (form_has_forest n h.0 lexemes h.2)

  -- one tree, if the form is one symbol
  only_tree : (s : GrammarSymbol) (lexemes : List X) (trees : Forest X) → ForestFits token g trees (s ∷ []) → forest_leaves trees ≡ lexemes
      → (tree : Tree X) × Fits token g tree s × (leaves tree ≡ lexemes)
  only_tree s lexemes Nil fits same = absurd fits
  only_tree s lexemes (Cons t Nil) fits same = (t, fits.0, sym (append-nil (leaves t)) ∙ same)
  only_tree s lexemes (Cons t (Cons u us)) fits same = absurd fits.1

  -- if a symbol derives the lexemes' tokens, a tree with these leaves fits it
  pub derived_has_tree : (s : GrammarSymbol) (lexemes : List X) → Derives g (s ∷ []) (terminals token lexemes)
      → (tree : Tree X) × Fits token g tree s × (leaves tree ≡ lexemes)
  derived_has_tree s lexemes h =
      let found = form_has_forest h.0 (s ∷ []) lexemes h.1 in
      only_tree s lexemes found.trees found.fits found.leaves

-- the law from trees to rewriting
pub leaves_are_derived : (X : Type 0) → LeavesAreDerived X
leaves_are_derived X token g s tree fits = tree_is_derived token g tree s fits

-- the law from rewriting to trees
pub derived_are_leaves : (X : Type 0) → DerivedAreLeaves X
derived_are_leaves X token g s lexemes h = derived_has_tree token g s lexemes h
