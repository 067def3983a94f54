-- Lists of trees: two of them joined, and one split between two lists of symbols.
use Rattle.std.proofs.Common.{◌≡◌, ◌∙◌, refl, sym, ap, ℕ, List, [], ◌∷◌, ◌++◌}
use Rattle.std.proofs.lemmas.List.{append_assoc}
use Rattle.lrpar_grammar_reader.specs.Grammar.{Grammar, GrammarSymbol}
use Rattle.lrpar_grammar.specs.Tree.{Forest, Leaf, Nil, Cons, leaves, forest_leaves, ForestFits}

-- one list of trees after another
abbrev pub joined : {X : Type 0} → Forest X → Forest X → Forest X
joined Nil others = others
joined (Cons t ts) others = Cons t (joined ts others)

-- the leaves of both
pub joined_leaves : {X : Type 0} (first others : Forest X) → forest_leaves (joined first others) ≡ forest_leaves first ++ forest_leaves others
joined_leaves Nil others = refl
joined_leaves (Cons t ts) others =
    ap (λ xs. leaves t ++ xs) (joined_leaves ts others) ∙ sym (append_assoc (leaves t) (forest_leaves ts) (forest_leaves others))

-- if each fits a list of symbols, both fit the symbols of both lists
pub joined_fits : {X : Type 0} (token : X → ℕ) (g : Grammar) (first others : Forest X) (ss rest : List GrammarSymbol)
    → ForestFits token g first ss → ForestFits token g others rest → ForestFits token g (joined first others) (ss ++ rest)
joined_fits token g Nil others [] rest fits fit = fit
joined_fits token g Nil others (s ∷ ss) rest fits fit = absurd fits
joined_fits token g (Cons t ts) others [] rest fits fit = absurd fits
joined_fits token g (Cons t ts) others (s ∷ ss) rest fits fit = (fits.0, joined_fits token g ts others ss rest fits.1 fit)

-- trees split in two: the first ones fit one list of symbols, and the others fit another
pub record Splits {X : Type 0} (token : X → ℕ) (g : Grammar) (ts : Forest X) (ss rest : List GrammarSymbol) : Type 0 where
  pub first : Forest X
  pub others : Forest X
  pub both : ts ≡ joined first others
  pub first_fits : ForestFits token g first ss
  pub others_fit : ForestFits token g others rest

-- trees that fit the symbols of two lists can be split so
pub splits : {X : Type 0} (token : X → ℕ) (g : Grammar) (ts : Forest X) (ss rest : List GrammarSymbol)
    → ForestFits token g ts (ss ++ rest) → Splits token g ts ss rest
splits token g ts [] rest fits = record { first = Nil; others = ts; both = refl; first_fits = tt; others_fit = fits }
splits token g Nil (s ∷ ss) rest fits = absurd fits
splits token g (Cons t ts) (s ∷ ss) rest fits =
    let h = splits token g ts ss rest fits.1 in
    record { first = Cons t h.first; others = h.others; both = ap (λ us. Cons t us) h.both; first_fits = (fits.0, h.first_fits); others_fit = h.others_fit }

-- the leaves are split alike
pub split_leaves : {X : Type 0} (token : X → ℕ) (g : Grammar) (ts : Forest X) (ss rest : List GrammarSymbol) (h : Splits token g ts ss rest)
    → forest_leaves ts ≡ forest_leaves h.first ++ forest_leaves h.others
split_leaves token g ts ss rest h = ap forest_leaves h.both ∙ joined_leaves h.first h.others

-- the trees that are these leaves
abbrev pub leaf_forest : {X : Type 0} → List X → Forest X
leaf_forest [] = Nil
leaf_forest (x ∷ xs) = Cons (Leaf x) (leaf_forest xs)

-- their leaves are these
pub leaf_forest_leaves : {X : Type 0} (xs : List X) → forest_leaves (leaf_forest xs) ≡ xs
leaf_forest_leaves [] = refl
leaf_forest_leaves (x ∷ xs) = ap (λ ys. x ∷ ys) (leaf_forest_leaves xs)
