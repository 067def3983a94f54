-- The moves that are appended are those of trees of minimal sentences: a list can't have more of them than the number at which
-- lengths are capped.
use Rattle.std.proofs.Common.{◌≡◌, ◌≤◌, ◌∙◌, ap, arith, ℕ, List, [], ◌∷◌, ◌++◌, Option, length, length-append}
use Rattle.std.proofs.lemmas.List.{length-map}
use Rattle.lrpar_grammar.specs.Grammar.{Grammar, GrammarSymbol}
use Rattle.lrpar_grammar.specs.Tree.{Tree, Forest, Nil, Cons, leaves}
use Rattle.lrpar_table_sentences.specs.Choices.{AreShortest, ChoiceOf, Follows, ForestFollows}
use Rattle.lrpar_table_sentences.specs.Moves.{MoveOf, forest_moves, move_of, moves_in, moves_of}
use Rattle.lrpar_table_sentences.specs.Texts.{AreShortestTrees, HaveTrees, IsShortestTree, forest_width, width}
use Rattle.lrpar_table_sentences.specs.declared.moves.Move.{Move}
use Rattle.lrpar_table_sentences.proofs.LenLemmas.{follows_fits, forest_moves_wide, moves_wide, shortest_trees}

-- there are no more moves than they have room
pub moves_low : {S : Type 0} (index : S → ℕ) (moves : List (Move S)) (most : ℕ) → length moves ≤ most → length (moves_in index moves) ≤ most
moves_low index moves most low = omega (arith, length-map moves (move_of index), low)

module _ (g : Grammar) (most : ℕ) (choices : List (Option ChoiceOf)) (shortest : AreShortest g most choices) where
  -- the trees of symbols
  pub pushed_all : (ss : List GrammarSymbol) (old new : List MoveOf) → HaveTrees g ss → length new ≤ most
      → ((trees : Forest ℕ) → ForestFollows g choices trees ss → new ≡ old ++ forest_moves trees)
      → (trees : Forest ℕ) × AreShortestTrees g ss trees × (new ≡ old ++ forest_moves trees)
  pushed_all ss old new have low pushed =
      let kept = shortest_trees g most choices shortest ss have in
      let is = pushed kept.0 kept.1 in
      let wide = forest_moves_wide kept.0 in
      let long = ap length is ∙ length-append old (forest_moves kept.0) in
      (kept.0, kept.2 (omega (arith, low, wide, long)), is)

  -- the tree of one
  first_kept : (s : GrammarSymbol) (trees : Forest ℕ) → ForestFollows g choices trees (s ∷ []) → (forest_width trees ≤ most → AreShortestTrees g (s ∷ []) trees)
      → (tree : Tree ℕ) × Follows g choices tree s × (width tree ≤ most → IsShortestTree g s tree)
  first_kept s Nil follow agrees = absurd follow
  first_kept s (Cons t (Cons u us)) follow agrees = absurd follow.1
  first_kept s (Cons t Nil) follow agrees =
      let alone = length-append (leaves t) [] in (
        t,
        follow.0,
        λ low. record {
          fits = follows_fits g most choices shortest.right t s follow.0;
          least = λ other fit.
              let least = (agrees (omega (arith, low, alone))).least (Cons other Nil) (fit, tt) in
              omega (arith, least, alone, length-append (leaves other) []);
        },
      )

  pub pushed_one : (s : GrammarSymbol) (old new : List MoveOf) → HaveTrees g (s ∷ []) → length new ≤ most
      → ((tree : Tree ℕ) → Follows g choices tree s → new ≡ old ++ moves_of tree)
      → (tree : Tree ℕ) × IsShortestTree g s tree × (new ≡ old ++ moves_of tree)
  pushed_one s old new have low pushed =
      let kept = shortest_trees g most choices shortest (s ∷ []) have in
      let one = first_kept s kept.0 kept.1 kept.2 in
      let is = pushed one.0 one.1 in
      let wide = moves_wide one.0 in
      let long = ap length is ∙ length-append old (moves_of one.0) in
      (one.0, one.2 (omega (arith, low, wide, long)), is)
