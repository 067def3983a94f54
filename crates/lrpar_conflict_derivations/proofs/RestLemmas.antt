-- Trees of the symbols after a link's rule.
use Rattle.std.proofs.Common.{◌≡◌, ◌<◌, ◌+◌, ◌-◌, ◌⊎◌, ◌∙◌, refl, sym, ap, subst, inl, inr, arith, ℕ, zero, suc, Bool, true, false, List, [], ◌∷◌, ◌++◌, All, drop, length, map, take}
use Rattle.std.proofs.lemmas.Bool.{false≢true}
use Rattle.std.proofs.lemmas.List.{nil_from_length, take_rest}
use Rattle.lrpar_grammar.specs.Grammar.{Grammar, GrammarSymbol, IsWellFormed, Nonterminal, rule_of, symbols_of}
use Rattle.lrpar_grammar.specs.Tree.{Forest, forest_leaves}
use Rattle.lrpar_table_first.specs.FirstRows.{dummy_lookahead}
use Rattle.lrpar_table_first.proofs.FirstLemmas.{AreBelow}
use Rattle.lrpar_table_first.proofs.GrowthLemmas.{prods_below}
use Rattle.lrpar_table_build.proofs.ReachedLemmas.{head_after, known_by_symbol}
use Rattle.lrpar_table_sentences.specs.Moves.{MoveOf, forest_moves}
use Rattle.lrpar_table_sentences.specs.Reachable.{EachReachableHasTree, IsReachableRule, IsReachableSymbol}
use Rattle.lrpar_table_sentences.specs.Texts.{AreShortestTrees, AreTreesOf, BeginWith, CanBeginWith, HaveTrees}
use Rattle.lrpar_conflict_derivations.specs.Completion.{HasRest, IsNextIf}
use Rattle.lrpar_conflict_derivations.specs.ClosureLinks.{IsStep, LinkOf, PassesOn}
use Rattle.lrpar_table_sentences.proofs.AfterLemmas.{drop_at_get, have_trees, rest_reached}
use Rattle.lrpar_conflict_derivations.proofs.CompletionLemmas.{any_ahead, begin_ahead, through_ahead}
use Rattle.lrpar_conflict_derivations.proofs.LinkLemmas.{AreBelow-drop}
use Rattle.lrpar_conflict_derivations.proofs.ReachLemmas.{begins_with, derives_nothing}

-- what is left of an image
pub map-drop : {X Y : Type 0} (f : X → Y) (n : ℕ) (xs : List X) → map f (drop n xs) ≡ drop n (map f xs)
map-drop f zero xs = refl
map-drop f (suc n) [] = refl
map-drop f (suc n) (x ∷ xs) = map-drop f n xs

-- the symbols after a place, as a part of a list of code
pub rest_of : {X Y : Type 0} (f : X → Y) (n : ℕ) (xs : List X) (all : List Y) → map f xs ≡ all → map f (take (length xs - n) (drop n xs)) ≡ drop n all
rest_of f n xs all is = ap (map f) (take_rest xs n) ∙ map-drop f n xs ∙ ap (drop n) is

module _ (g : Grammar) (well : IsWellFormed g) (each : EachReachableHasTree g) (token : ℕ) (low : token < dummy_lookahead g) (x : LinkOf)
    (step : IsStep g token x.prod x.dot x.further x.above x) (reached : IsReachableRule g (rule_of g x.prod)) (old new : List MoveOf) where
  -- the symbols after the rule
  pub rest_is : drop (x.dot + 1) (symbols_of g x.prod) ≡ step.rest
  rest_is =
      let at = drop_at_get (symbols_of g x.prod) x.dot (Nonterminal x.rule) (head_after (symbols_of g x.prod) x.dot (Nonterminal x.rule) step.rest step.before) in
      let both : Nonterminal x.rule ∷ drop (x.dot + 1) (symbols_of g x.prod) ≡ Nonterminal x.rule ∷ step.rest = sym at ∙ step.before in cc

  all_reached : All (IsReachableSymbol g) step.rest
  all_reached = rest_reached g well x.prod x.dot (Nonterminal x.rule) step.rest step.before reached

  rest_below : AreBelow (dummy_lookahead g) (Nonterminal x.rule ∷ step.rest)
  rest_below =
      let known = known_by_symbol g well x.prod x.dot (Nonterminal x.rule) (head_after (symbols_of g x.prod) x.dot (Nonterminal x.rule) step.rest step.before) in
      subst (AreBelow (dummy_lookahead g)) step.before (AreBelow-drop (dummy_lookahead g) x.dot (symbols_of g x.prod) (prods_below g well x.prod known))

  pub some_trees : (w : List GrammarSymbol) → w ≡ drop (x.dot + 1) (symbols_of g x.prod) → HaveTrees g w
  some_trees w is = subst (HaveTrees g) (sym (is ∙ rest_is)) (have_trees g each step.rest all_reached)

  passes_for : (asked further : Bool) → x.asked ≡ asked → x.further ≡ further → PassesOn g token step.rest asked further
  passes_for asked further asks goes =
      subst (λ (b : Bool). PassesOn g token step.rest b further) asks (subst (λ (b : Bool). PassesOn g token step.rest x.asked b) goes step.passes)

  pub some_begin : x.asked ≡ true → x.further ≡ false → (w : List GrammarSymbol) → w ≡ drop (x.dot + 1) (symbols_of g x.prod) → CanBeginWith g w token
  some_begin asks goes w is =
      subst (λ (v : List GrammarSymbol). CanBeginWith g v token) (sym (is ∙ rest_is))
      (begins_with g each well (dummy_lookahead g) (prods_below g well) step.rest token (passes_for true false asks goes) low all_reached)

  -- they begin with the token
  pub rest_begin : x.asked ≡ true → (w : List GrammarSymbol) → w ≡ drop (x.dot + 1) (symbols_of g x.prod) → (trees : Forest ℕ) → BeginWith g w token trees
      → new ≡ old ++ forest_moves trees → HasRest g token x old new
  rest_begin asks w is trees begin moves = record {
    trees = trees;
    fit = subst (λ (v : List GrammarSymbol). AreTreesOf g v trees) is begin.fit;
    moves = moves;
    ahead =
        λ text next.
        subst (λ (b : Bool). IsNextIf g token b (forest_leaves trees ++ text)) (sym asks)
        (begin_ahead g token trees begin.first.0 x.further begin.first.1 text next);
  }

  -- or they are minimal sentences' trees
  ahead_by : (asked further : Bool) → PassesOn g token step.rest asked further → (asked ≡ false) ⊎ (further ≡ true) → (trees : Forest ℕ)
      → AreShortestTrees g step.rest trees → (text : List ℕ) → IsNextIf g token further text → IsNextIf g token asked (forest_leaves trees ++ text)
  ahead_by false further passes either trees least text next = any_ahead g token trees further text next
  ahead_by true false passes either trees least text next =
      elim either [
        | inl denied ↦ absurd (false≢true (sym denied))
        | inr denied ↦ absurd (false≢true denied)
      ]
  ahead_by true true passes either trees least text next =
      let none = derives_nothing g each well (dummy_lookahead g) (prods_below g well) step.rest (dummy_lookahead g) passes refl rest_below in
      let short : length (forest_leaves trees) ≡ 0 =
      let less = least.least none.0 none.1 in let zero_is = ap (λ (xs : List ℕ). length xs) none.2 in omega (arith, less, zero_is) in
      through_ahead g token trees (nil_from_length (forest_leaves trees) short) text next

  pub rest_any : (x.asked ≡ false) ⊎ (x.further ≡ true) → (w : List GrammarSymbol) → w ≡ drop (x.dot + 1) (symbols_of g x.prod) → (trees : Forest ℕ)
      → AreShortestTrees g w trees → new ≡ old ++ forest_moves trees → HasRest g token x old new
  rest_any either w is trees least moves =
      let here = subst (λ (v : List GrammarSymbol). AreShortestTrees g v trees) (is ∙ rest_is) least in record {
        trees = trees;
        fit = subst (λ (v : List GrammarSymbol). AreTreesOf g v trees) is least.fit;
        moves = moves;
        ahead = ahead_by x.asked x.further step.passes either trees here;
      }
