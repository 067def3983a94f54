-- The tokens that moves take. Those of the moves of trees are the trees' leaves.
use Rattle.std.proofs.Common.{◌≡◌, ◌∙◌, refl, sym, ap, ℕ, true, false, List, [], ◌∷◌, ◌++◌, Option, Some, None}
use Rattle.std.specs.Option.{is_some}
use Rattle.std.proofs.lemmas.Bool.{false≢true, true≢false}
use Rattle.std.proofs.lemmas.List.{append-nil, append_assoc, map-append}
use Rattle.lrpar_grammar.specs.Grammar.{Grammar, GrammarSymbol}
use Rattle.lrpar_grammar.specs.Tree.{Tree, Forest, Leaf, Branch, Nil, Cons, leaves, forest_leaves}
use Rattle.lrpar_table_sentences.specs.Moves.{MoveOf, Makes, Takes, forest_moves, move_of, moves_in, moves_of}
use Rattle.lrpar_table_sentences.specs.declared.moves.Move.{Move}
use Rattle.lrpar_table_sentences.specs.declared.moves.Move.TheVariants.{Make, Take}
use Rattle.lrpar_table_sentences.specs.Texts.{HaveTrees, IsShortestIfAny}
use Rattle.lrpar_table_stacks.specs.Expected.{tokens_of}
use Rattle.lrpar_grammar_places.specs.declared.span.TIdx.{TIdx}

abbrev pub takes : List MoveOf → List ℕ
takes [] = []
takes (Takes t ∷ moves) = t ∷ takes moves
takes (Makes p ∷ moves) = takes moves

takes-append : (xs ys : List MoveOf) → takes (xs ++ ys) ≡ takes xs ++ takes ys
takes-append [] ys = refl
takes-append (Takes t ∷ xs) ys = ap (λ (ts : List ℕ). t ∷ ts) (takes-append xs ys)
takes-append (Makes p ∷ xs) ys = takes-append xs ys

mutual
  takes_leaves : (t : Tree ℕ) → takes (moves_of t) ≡ leaves t
  takes_leaves (Leaf t) = refl
  takes_leaves (Branch p children) =
      takes-append (forest_moves children) (Makes p ∷ []) ∙ append-nil (takes (forest_moves children)) ∙ forest_takes children

  pub forest_takes : (ts : Forest ℕ) → takes (forest_moves ts) ≡ forest_leaves ts
  forest_takes Nil = refl
  forest_takes (Cons t ts) =
      takes-append (moves_of t) (forest_moves ts)
      ∙ ap (λ (xs : List ℕ). xs ++ takes (forest_moves ts)) (takes_leaves t)
      ∙ ap (λ (xs : List ℕ). leaves t ++ xs) (forest_takes ts)

module _ {S : Type 0} (index : S → ℕ) where
  -- the tokens so far, with those of the moves so far
  abbrev pub AreTaken : List ℕ → List (Move S) → List (TIdx S) → Type 0
  AreTaken old moves tokens = tokens_of index tokens ≡ old ++ takes (moves_in index moves)

  -- one move more, which takes a token
  pub taken_more : (old : List ℕ) (moves : List (Move S)) (tokens more : List (TIdx S)) (move : Move S) (token : TIdx S) → move ≡ Take token
      → more ≡ tokens ++ token ∷ [] → AreTaken old moves tokens → AreTaken old (moves ++ move ∷ []) more
  taken_more old moves tokens more move token is pushed so_far =
      ap (tokens_of index) pushed ∙ map-append (λ (t : TIdx S). index t.0) tokens (token ∷ [])
      ∙ ap (λ (xs : List ℕ). xs ++ index token.0 ∷ []) so_far
      ∙ append_assoc old (takes (moves_in index moves)) (index token.0 ∷ [])
      ∙ ap (λ (xs : List ℕ). old ++ xs)
      (ap (λ (m : Move S). takes (moves_in index moves) ++ takes (move_of index m ∷ [])) (sym is)
      ∙ sym (takes-append (moves_in index moves) (move_of index move ∷ []))
      ∙ ap takes (sym (map-append (move_of index) moves (move ∷ []))))

  -- or one that makes a node
  pub made_more : (old : List ℕ) (moves : List (Move S)) (tokens : List (TIdx S)) (move : Move S) → ((token : TIdx S) → move ≡ Take token → ⊥)
      → AreTaken old moves tokens → AreTaken old (moves ++ move ∷ []) tokens
  made_more old moves tokens (Take token) other so_far = absurd (other token refl)
  made_more old moves tokens (Make prod) other so_far =
      so_far ∙ ap (λ (xs : List ℕ). old ++ xs)
      (sym (append-nil (takes (moves_in index moves)))
      ∙ sym (takes-append (moves_in index moves) (move_of index (Make prod) ∷ []))
      ∙ ap takes (sym (map-append (move_of index) moves (Make prod ∷ []))))

-- if no length was found, there are no trees; and if one was found, there are
pub none_refuses : (g : Grammar) (most : ℕ) (symbols : List GrammarSymbol) (len : Option ℕ) → IsShortestIfAny g most symbols len → is_some len ≡ false
    → ¬ (HaveTrees g symbols)
none_refuses g most symbols None none is trees = none trees.0 trees.1
none_refuses g most symbols (Some n) some is trees = true≢false is

pub some_trees : (g : Grammar) (most : ℕ) (symbols : List GrammarSymbol) (len : Option ℕ) → IsShortestIfAny g most symbols len → is_some len ≡ true
    → HaveTrees g symbols
some_trees g most symbols None none is = absurd (false≢true is)
some_trees g most symbols (Some n) some is = (some.some.0, some.some.1)

-- all moves were taken: their trees' leaves were appended
pub all_taken : {S : Type 0} (index : S → ℕ) (old : List ℕ) (moves : List (Move S)) (tokens : List (TIdx S)) (trees : Forest ℕ)
    → moves_in index moves ≡ forest_moves trees → AreTaken index old moves tokens → tokens_of index tokens ≡ old ++ forest_leaves trees
all_taken index old moves tokens trees are taken =
    taken ∙ ap (λ (xs : List ℕ). old ++ xs) (ap takes are ∙ forest_takes trees)
