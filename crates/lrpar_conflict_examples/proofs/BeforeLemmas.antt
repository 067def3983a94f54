-- The text of a derivation, cut at the conflict.
use Rattle.std.proofs.Common.{◌≡◌, ◌<◌, ◌≤◌, ◌∙◌, refl, sym, ap, subst, arith, ℕ, zero, suc, List, [], ◌∷◌, ◌++◌, append_assoc, drop, length, length-append}
use Rattle.std.proofs.lemmas.List.{append-nil, length-map, nil_from_length}
use Rattle.lrpar_grammar_places.proofs.ListLemmas.{all_back, all_front}
use Rattle.lrpar_grammar_places.specs.declared.span.TIdx.{TIdx}
use Rattle.lrpar_grammar.specs.Grammar.{Grammar, IsWellFormed, Nonterminal, tokens_len}
use Rattle.lrpar_grammar.specs.Tree.{Tree, leaves}
use Rattle.lrpar_table_sentences.specs.Moves.{MoveOf}
use Rattle.lrpar_conflict_derivations.specs.Texts.{tokens_in, token_numbers}
use Rattle.lrpar_conflict_examples.specs.Conflicts.{ConflictExampleOf}
use Rattle.lrpar_conflict_examples.specs.ExamplesFit.{DerivesFrom}
use Rattle.lrpar_conflict_examples.specs.Fits.{AreMovesOf, AreTokensOf}
use Rattle.lrpar_conflict_examples.specs.Texts.{AreExampleTexts, IsExampleText}
use Rattle.lrpar_conflict_derivations.proofs.TextLemmas.{tokens_of_tree}
use Rattle.lrpar_conflict_examples.proofs.KnownLemmas.{leaves_known}

-- the moves of a tree shift its text
tokens_text : (g : Grammar) (moves : List MoveOf) (tree : Tree ℕ) → AreMovesOf g moves tree → tokens_in moves ≡ leaves tree
tokens_text g moves tree of_tree = ap tokens_in of_tree.are ∙ tokens_of_tree tree

-- what comes after a list is what is left without its number of elements
after : (xs ys : List ℕ) → drop (length xs) (xs ++ ys) ≡ ys
after [] [] = refl
after [] (y ∷ ys) = refl
after (x ∷ xs) ys = after xs ys

numbers_after : {S : Type 0} (index : S → ℕ) (n : ℕ) (tokens : List (TIdx S)) → token_numbers index (drop n tokens) ≡ drop n (token_numbers index tokens)
numbers_after index zero [] = refl
numbers_after index zero (t ∷ tokens) = refl
numbers_after index (suc n) [] = refl
numbers_after index (suc n) (t ∷ tokens) = numbers_after index n tokens

module _ (g : Grammar) (well : IsWellFormed g) (before : List ℕ) (moves : List MoveOf) (derives : DerivesFrom g before moves) where
  all_known : AreTokensOf g (before ++ derives.rest)
  all_known = subst (AreTokensOf g) derives.text (leaves_known g well derives.tree (Nonterminal g.start) derives.of_tree.fits well.start_within)

  -- the access string is of the grammar, and so is the rest
  pub before_known : AreTokensOf g before
  before_known = all_front (λ t. t < tokens_len g) before derives.rest all_known

  rest_known : AreTokensOf g derives.rest
  rest_known = all_back (λ t. t < tokens_len g) before derives.rest all_known

module _ {S : Type 0} (index : S → ℕ) (g : Grammar) where
  -- the text is no shorter than the access string
  pub before_len : (before text : List (TIdx S)) (moves : List MoveOf) → DerivesFrom g (token_numbers index before) moves
      → token_numbers index text ≡ tokens_in moves → length before ≤ length text
  before_len before text moves derives is =
      let all : token_numbers index text ≡ token_numbers index before ++ derives.rest = is ∙ tokens_text g moves derives.tree derives.of_tree ∙ derives.text in
      let long = ap (λ (l : List ℕ). length l) all in
      let both = length-append (token_numbers index before) derives.rest in
      let one = length-map before (λ (t : TIdx S). index t.0) in
      let other = length-map text (λ (t : TIdx S). index t.0) in
      omega (arith, long, both, one, other)

  -- what is left is what the tree has after this number of tokens
  pub rest_is : (before text rest : List (TIdx S)) (moves : List MoveOf) (tree : Tree ℕ) → AreMovesOf g moves tree → token_numbers index text ≡ tokens_in moves
      → rest ≡ drop (length before) text → token_numbers index rest ≡ drop (length (token_numbers index before)) (leaves tree)
  rest_is before text rest moves tree of_tree is cut =
      ap (token_numbers index) cut ∙ numbers_after index (length before) text
      ∙ ap (λ n. drop n (token_numbers index text)) (sym (length-map before (λ (t : TIdx S). index t.0)))
      ∙ ap (drop (length (token_numbers index before))) (is ∙ tokens_text g moves tree of_tree)

  pub after_known : IsWellFormed g → (before text rest : List (TIdx S)) (moves : List MoveOf) → DerivesFrom g (token_numbers index before) moves
      → token_numbers index text ≡ tokens_in moves → rest ≡ drop (length before) text → AreTokensOf g (token_numbers index rest)
  after_known well before text rest moves derives is cut =
      let own = token_numbers index before in
      let all : token_numbers index rest ≡ derives.rest =
      rest_is before text rest moves derives.tree derives.of_tree is cut ∙ ap (drop (length own)) derives.text ∙ after own derives.rest in
      subst (AreTokensOf g) (sym all) (rest_known g well own moves derives)

-- the text of one more counterexample
pub next_example : (g : Grammar) (all rest others : List ConflictExampleOf) (x : ConflictExampleOf) (out new own : List ℕ) → rest ≡ x ∷ others
    → IsExampleText g x own → new ≡ out ++ own → ((text : List ℕ) → AreExampleTexts g rest text → AreExampleTexts g all (out ++ text))
    → (text : List ℕ) → AreExampleTexts g others text → AreExampleTexts g all (new ++ text)
next_example g all rest others x out new own parted is written whole text are =
    let here : AreExampleTexts g rest (own ++ text) = subst (λ l. AreExampleTexts g l (own ++ text)) (sym parted) (own, text, is, are, refl) in
    subst (AreExampleTexts g all) (sym (ap (λ o. o ++ text) written ∙ append_assoc out own text)) (whole (own ++ text) here)

-- that of no more
pub no_example : (g : Grammar) (all rest : List ConflictExampleOf) (out : List ℕ) → length rest ≡ 0
    → ((text : List ℕ) → AreExampleTexts g rest text → AreExampleTexts g all (out ++ text)) → AreExampleTexts g all out
no_example g all rest out none whole =
    let here : AreExampleTexts g rest [] = subst (λ l. AreExampleTexts g l []) (sym (nil_from_length rest none)) refl in
    subst (AreExampleTexts g all) (append-nil out) (whole [] here)
