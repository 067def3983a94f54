-- The tokens of moves, and of the trees that they make.
use Rattle.std.proofs.Common.{◌≡◌, ◌<◌, ◌≤◌, ◌+◌, ◌∙◌, refl, sym, ap, arith, ℕ, List, [], ◌∷◌, ◌++◌, get_or, length, take}
use Rattle.std.proofs.lemmas.List.{append-nil, get_or-map}
use Rattle.lrpar_grammar_places.specs.declared.span.TIdx.{TIdx}
use Rattle.lrpar_grammar.specs.Tree.{Forest, Tree, Branch, Cons, Leaf, Nil, forest_leaves, leaves}
use Rattle.lrpar_grammar_places.proofs.ListLemmas.{map-take_more}
use Rattle.lrpar_table_sentences.specs.Moves.{Makes, MoveOf, Takes, forest_moves, move_of, moves_in, moves_of}
use Rattle.lrpar_table_sentences.specs.declared.moves.Move.{Move}
use Rattle.lrpar_conflict_derivations.specs.Texts.{tokens_in, token_numbers}

pub shifts-append : (moves more : List MoveOf) → tokens_in (moves ++ more) ≡ tokens_in moves ++ tokens_in more
shifts-append [] more = refl
shifts-append (Takes t ∷ moves) more = ap (λ ts. t ∷ ts) (shifts-append moves more)
shifts-append (Makes p ∷ moves) more = shifts-append moves more

-- no more tokens than moves
pub tokens_short : (moves : List MoveOf) → length (tokens_in moves) ≤ length moves
tokens_short [] = omega arith
tokens_short (Takes t ∷ moves) = let ih = tokens_short moves in omega arith
tokens_short (Makes p ∷ moves) = let ih = tokens_short moves in omega arith

-- the moves of a tree shift its leaves
mutual
  pub tokens_of_tree : (tree : Tree ℕ) → tokens_in (moves_of tree) ≡ leaves tree
  tokens_of_tree (Leaf t) = refl
  tokens_of_tree (Branch p children) =
      shifts-append (forest_moves children) (Makes p ∷ []) ∙ append-nil (tokens_in (forest_moves children)) ∙ tokens_of_trees children

  pub tokens_of_trees : (trees : Forest ℕ) → tokens_in (forest_moves trees) ≡ forest_leaves trees
  tokens_of_trees Nil = refl
  tokens_of_trees (Cons t ts) =
      shifts-append (moves_of t) (forest_moves ts) ∙ ap (λ xs. xs ++ tokens_in (forest_moves ts)) (tokens_of_tree t)
      ∙ ap (λ xs. leaves t ++ xs) (tokens_of_trees ts)

-- one move more
pub tokens_more : {S : Type 0} (index : S → ℕ) (moves : List (Move S)) (i : ℕ) (step : Move S) (tokens more : List (TIdx S)) (own : List ℕ)
    → i < length moves → step ≡ get_or moves i step → token_numbers index tokens ≡ tokens_in (moves_in index (take i moves))
    → token_numbers index more ≡ token_numbers index tokens ++ own → tokens_in (move_of index step ∷ []) ≡ own
    → token_numbers index more ≡ tokens_in (moves_in index (take (i + 1) moves))
tokens_more index moves i step tokens more own low is before push shifts =
    let all = map-take_more (move_of index) moves i step low is in
    push ∙ ap (λ xs. xs ++ own) before ∙ ap (λ xs. tokens_in (moves_in index (take i moves)) ++ xs) (sym shifts)
    ∙ sym (ap tokens_in all ∙ shifts-append (moves_in index (take i moves)) (move_of index step ∷ []))

-- the number of a token in its place
number_at : {S : Type 0} (index : S → ℕ) (tokens : List (TIdx S)) (i : ℕ) (token : TIdx S) (d : ℕ) → i < length tokens → token ≡ get_or tokens i token
    → get_or (token_numbers index tokens) i d ≡ index token.0
number_at {S} index tokens i token d low is = get_or-map (λ (t : TIdx S). index t.0) tokens i token d low ∙ ap (λ (t : TIdx S). index t.0) (sym is)

-- the numbers of two tokens in one place of lists of one length
pub numbers_at : {S : Type 0} (index : S → ℕ) (tokens others : List (TIdx S)) (i : ℕ) (token other : TIdx S) (d : ℕ) → i < length tokens
    → length tokens ≡ length others → token ≡ get_or tokens i token → other ≡ get_or others i other
    → (get_or (token_numbers index tokens) i d ≡ index token.0) × (get_or (token_numbers index others) i d ≡ index other.0)
numbers_at index tokens others i token other d low same read read_other =
    (number_at index tokens i token d low read, number_at index others i other d (omega (arith, low, same)) read_other)
