-- A tree is determined by its leaves and its productions together. Both lists are read from the end. The last production of a
-- node is its own, so it gives the symbols of the node's children; these are determined from the last one back. A leaf is the
-- last lexeme. So what comes before the two lists is carried along.
use Rattle.std.proofs.Common.{◌≡◌, ◌∙◌, refl, sym, ap, subst, arith, ℕ, List, [], ◌∷◌, ◌++◌, length, length-append}
use Rattle.std.proofs.lemmas.List.{append-nil, append_assoc}
use Rattle.lrpar_grammar.specs.Grammar.{Grammar, GrammarSymbol, Nonterminal, Terminal, symbols_of}
use Rattle.lrpar_grammar.specs.Tree.{Tree, Forest, Leaf, Branch, Nil, Cons, leaves, forest_leaves, productions, forest_productions, Fits, ForestFits}

-- two lists with one element more after each are equal in both parts
pub last_same : {A : Type 0} (xs ys : List A) (x y : A) → xs ++ x ∷ [] ≡ ys ++ y ∷ [] → (xs ≡ ys) × (x ≡ y)
last_same [] [] x y e = let same : x ≡ y = cc in (refl, same)
last_same {A} [] (b ∷ ys) x y e =
    absurd (omega (arith, ap (λ (l : List A). length l) e, length-append ys (y ∷ [])))
last_same {A} (a ∷ xs) [] x y e =
    absurd (omega (arith, ap (λ (l : List A). length l) e, length-append xs (x ∷ [])))
last_same (a ∷ xs) (b ∷ ys) x y e =
    let first : a ≡ b = cc in
    let rest : xs ++ x ∷ [] ≡ ys ++ y ∷ [] = cc in
    let more = last_same xs ys x y rest in
    (ap (λ z. z ∷ xs) first ∙ ap (λ zs. b ∷ zs) more.0, more.1)

-- nothing after either
none_after : {A : Type 0} (xs ys : List A) → xs ++ [] ≡ ys ++ [] → xs ≡ ys
none_after xs ys e = sym (append-nil xs) ∙ e ∙ append-nil ys

-- the seam moved
seam_same : {A : Type 0} (a b c x y z : List A) → a ++ (b ++ c) ≡ x ++ (y ++ z) → (a ++ b) ++ c ≡ (x ++ y) ++ z
seam_same a b c x y z e = append_assoc a b c ∙ e ∙ sym (append_assoc x y z)

module _ {X : Type 0} (token : X → ℕ) (g : Grammar) where
  mutual
    pub one_tree : (t u : Tree X) (s : GrammarSymbol) (ps qs : List ℕ) (xs ys : List X) → Fits token g t s → Fits token g u s
        → ps ++ productions t ≡ qs ++ productions u → xs ++ leaves t ≡ ys ++ leaves u → (t ≡ u) × (ps ≡ qs) × (xs ≡ ys)
    one_tree (Leaf x) (Leaf y) (Terminal a) ps qs xs ys fit fits prods lexemes =
        let last = last_same xs ys x y lexemes in
        (ap (λ z. Leaf z) last.1, none_after ps qs prods, last.0)
    one_tree (Leaf x) (Leaf y) (Nonterminal r) ps qs xs ys fit fits prods lexemes = absurd fit
    one_tree (Leaf x) (Branch q ds) (Terminal a) ps qs xs ys fit fits prods lexemes = absurd fits
    one_tree (Leaf x) (Branch q ds) (Nonterminal r) ps qs xs ys fit fits prods lexemes = absurd fit
    one_tree (Branch p cs) (Leaf y) (Terminal a) ps qs xs ys fit fits prods lexemes = absurd fit
    one_tree (Branch p cs) (Leaf y) (Nonterminal r) ps qs xs ys fit fits prods lexemes = absurd fits
    one_tree (Branch p cs) (Branch q ds) (Terminal a) ps qs xs ys fit fits prods lexemes = absurd fit
    one_tree (Branch p cs) (Branch q ds) (Nonterminal r) ps qs xs ys fit fits prods lexemes =
        let last = last_same (ps ++ forest_productions cs) (qs ++ forest_productions ds) p q
        (seam_same ps (forest_productions cs) (p ∷ []) qs (forest_productions ds) (q ∷ []) prods) in
        let alike = subst (λ (n : ℕ). ForestFits token g ds (symbols_of g n)) (sym last.1) fits.2 in
        let more = one_forest cs ds (symbols_of g p) ps qs xs ys fit.2 alike last.0 lexemes in
        (ap (λ (n : ℕ). Branch n cs) last.1 ∙ ap (λ ts. Branch q ts) more.0, more.1, more.2)

    pub one_forest : (ts us : Forest X) (ss : List GrammarSymbol) (ps qs : List ℕ) (xs ys : List X) → ForestFits token g ts ss
        → ForestFits token g us ss → ps ++ forest_productions ts ≡ qs ++ forest_productions us
        → xs ++ forest_leaves ts ≡ ys ++ forest_leaves us → (ts ≡ us) × (ps ≡ qs) × (xs ≡ ys)
    one_forest Nil Nil ss ps qs xs ys fit fits prods lexemes = (refl, none_after ps qs prods, none_after xs ys lexemes)
    one_forest Nil (Cons u us) [] ps qs xs ys fit fits prods lexemes = absurd fits
    one_forest Nil (Cons u us) (s ∷ ss) ps qs xs ys fit fits prods lexemes = absurd fit
    one_forest (Cons t ts) Nil [] ps qs xs ys fit fits prods lexemes = absurd fit
    one_forest (Cons t ts) Nil (s ∷ ss) ps qs xs ys fit fits prods lexemes = absurd fits
    one_forest (Cons t ts) (Cons u us) [] ps qs xs ys fit fits prods lexemes = absurd fit
    one_forest (Cons t ts) (Cons u us) (s ∷ ss) ps qs xs ys fit fits prods lexemes =
        let later = one_forest ts us ss (ps ++ productions t) (qs ++ productions u) (xs ++ leaves t) (ys ++ leaves u) fit.1 fits.1
        (seam_same ps (productions t) (forest_productions ts) qs (productions u) (forest_productions us) prods)
        (seam_same xs (leaves t) (forest_leaves ts) ys (leaves u) (forest_leaves us) lexemes) in
        let first = one_tree t u s ps qs xs ys fit.0 fits.0 later.1 later.2 in
        (ap (λ v. Cons v ts) first.0 ∙ ap (λ vs. Cons u vs) later.0, first.1, first.2)

  -- trees that fit one symbol, with the same leaves and the same productions, are equal
  pub same_tree : (t u : Tree X) (s : GrammarSymbol) → Fits token g t s → Fits token g u s → productions t ≡ productions u
      → leaves t ≡ leaves u → t ≡ u
  same_tree t u s fit fits prods lexemes = (one_tree t u s [] [] [] [] fit fits prods lexemes).0
