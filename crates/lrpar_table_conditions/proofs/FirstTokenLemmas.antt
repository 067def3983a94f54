-- The first token of a tree with root symbol X, followed by a token a, is in First(X, a). And lexemes that are at a place of a list.
use Rattle.std.proofs.Common.{◌≡◌, ◌<◌, ◌+◌, ◌∙◌, refl, sym, ap, subst, arith, ℕ, zero, suc, List, [], ◌∷◌, ◌++◌, length, drop, slice_get, Some, length-append}
use Rattle.std.proofs.Math.Seq.{drop-append_seam}
use Rattle.std.specs.Option.{option_map_or}
use Rattle.std.proofs.lemmas.List.{append-nil, append_assoc, drop-drop, length-drop}
use Rattle.lrpar_grammar.specs.Grammar.{Grammar, GrammarSymbol, Nonterminal, Terminal, end_token, symbols_of}
use Rattle.lrpar_grammar.specs.Tree.{Tree, Forest, Leaf, Branch, Nil, Cons, leaves, forest_leaves, Fits, ForestFits}
use Rattle.lrpar_table_first.specs.First.{IsFirst, Empty, Token, Rule}

-- the token of the first lexeme, or, if there is none, the token after the lexemes
abbrev pub first_token : {X : Type 0} → (X → ℕ) → List X → ℕ → ℕ
first_token token [] after = after
first_token token (x ∷ xs) after = token x

first_token-append : {X : Type 0} (token : X → ℕ) (xs ys : List X) (after : ℕ)
    → first_token token (xs ++ ys) after ≡ first_token token xs (first_token token ys after)
first_token-append token [] ys after = refl
first_token-append token (x ∷ xs) ys after = refl

module _ {X : Type 0} (token : X → ℕ) (g : Grammar) (a : ℕ) where
  mutual
    pub tree_first : (t : Tree X) (s : GrammarSymbol) (w : List GrammarSymbol) (c : ℕ) → Fits token g t s → IsFirst g a w c
        → IsFirst g a (s ∷ w) (first_token token (leaves t) c)
    tree_first (Leaf x) (Terminal b) w c fits first = subst (λ (n : ℕ). IsFirst g a (Terminal b ∷ w) n) (sym fits) (Token b w)
    tree_first (Leaf x) (Nonterminal r) w c fits first = absurd fits
    tree_first (Branch p children) (Terminal b) w c fits first = absurd fits
    tree_first (Branch p children) (Nonterminal r) w c fits first =
        Rule p r w (first_token token (forest_leaves children) c) fits.0 fits.1 (forest_first children (symbols_of g p) w c fits.2 first)

    pub forest_first : (ts : Forest X) (ss w : List GrammarSymbol) (c : ℕ) → ForestFits token g ts ss → IsFirst g a w c
        → IsFirst g a (ss ++ w) (first_token token (forest_leaves ts) c)
    forest_first Nil [] w c fits first = first
    forest_first Nil (s ∷ ss) w c fits first = absurd fits
    forest_first (Cons t ts) [] w c fits first = absurd fits
    forest_first (Cons t ts) (s ∷ ss) w c fits first =
        subst (λ (n : ℕ). IsFirst g a (s ∷ ss ++ w) n) (sym (first_token-append token (leaves t) (forest_leaves ts) c))
        (tree_first t s (ss ++ w) (first_token token (forest_leaves ts) c) fits.0 (forest_first ts ss w c fits.1 first))

  -- and if a itself follows
  pub forest_begins : (ts : Forest X) (ss : List GrammarSymbol) → ForestFits token g ts ss
      → IsFirst g a ss (first_token token (forest_leaves ts) a)
  forest_begins ts ss fits =
      subst (λ (w : List GrammarSymbol). IsFirst g a w (first_token token (forest_leaves ts) a)) (append-nil ss)
      (forest_first ts ss [] a fits Empty)

-- the token at a place is that of the first lexeme from there on
read_drop : {X : Type 0} (token : X → ℕ) (g : Grammar) (lexemes : List X) (i : ℕ)
    → option_map_or token (slice_get lexemes i) (end_token g) ≡ first_token token (drop i lexemes) (end_token g)
read_drop token g [] zero = refl
read_drop token g [] (suc i) = refl
read_drop token g (x ∷ xs) zero = refl
read_drop token g (x ∷ xs) (suc i) = read_drop token g xs i

-- the lexemes from place i up to place j are these
pub record AreBetween {X : Type 0} (lexemes xs : List X) (i j : ℕ) : Type 0 where
  pub at : drop i lexemes ≡ xs ++ drop j lexemes
  pub past : j ≡ i + length xs

-- all lexemes
pub between_all : {X : Type 0} (lexemes : List X) → AreBetween lexemes lexemes 0 (length lexemes)
between_all lexemes = record {
  at = sym (ap (λ rest. lexemes ++ rest) (drop_past lexemes) ∙ append-nil lexemes);
  past = omega arith;
}
  where
    drop_past : {X : Type 0} (l : List X) → drop (length l) l ≡ []
    drop_past [] = refl
    drop_past (x ∷ xs) = drop_past xs

-- the token at their first place
pub between_token : {X : Type 0} (token : X → ℕ) (g : Grammar) (lexemes xs : List X) (i j : ℕ) → AreBetween lexemes xs i j
    → option_map_or token (slice_get lexemes i) (end_token g) ≡ first_token token xs (option_map_or token (slice_get lexemes j) (end_token g))
between_token {X} token g lexemes xs i j between =
    read_drop token g lexemes i ∙ ap (λ (l : List X). first_token token l (end_token g)) between.at
    ∙ first_token-append token xs (drop j lexemes) (end_token g)
    ∙ ap (first_token token xs) (sym (read_drop token g lexemes j))

-- if there is a first one, its place is within the list
pub between_within : {X : Type 0} (lexemes : List X) (x : X) (xs : List X) (i j : ℕ) → AreBetween lexemes (x ∷ xs) i j → i < length lexemes
between_within {X} lexemes x xs i j between =
    omega (arith, ap (λ (l : List X). length l) between.at, length-drop i lexemes)

-- the first of them, and the others after those
pub between_split : {X : Type 0} (lexemes xs ys : List X) (i j : ℕ) → AreBetween lexemes (xs ++ ys) i j
    → AreBetween lexemes xs i (i + length xs) × AreBetween lexemes ys (i + length xs) j
between_split {X} lexemes xs ys i j between =
    let whole : drop i lexemes ≡ xs ++ (ys ++ drop j lexemes) = between.at ∙ append_assoc xs ys (drop j lexemes) in
    let rest : drop (i + length xs) lexemes ≡ ys ++ drop j lexemes =
    sym (drop-drop (length xs) i lexemes) ∙ ap (λ (l : List X). drop (length xs) l) whole ∙ drop-append_seam xs (ys ++ drop j lexemes) in (
      record { at = whole ∙ ap (λ (l : List X). xs ++ l) (sym rest); past = refl },
      record { at = rest; past = let past = between.past in omega (arith, past, length-append xs ys) },
    )

-- the symbol after a dot, and those after it
pub at_drop : {A : Type 0} (l : List A) (k : ℕ) (x : A) (w : List A) → drop k l ≡ x ∷ w → (slice_get l k ≡ Some x) × (drop (suc k) l ≡ w)
at_drop [] zero x w e = let no : [] ≡ x ∷ w = e in cc
at_drop [] (suc k) x w e = let no : [] ≡ x ∷ w = e in cc
at_drop (y ∷ l) zero x w e = let first : y ≡ x = cc in (ap Some first, let rest : l ≡ w = cc in rest)
at_drop (y ∷ l) (suc k) x w e = at_drop l k x w e
