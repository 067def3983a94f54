-- Derivations of the trees that are completed from an item.
use Rattle.std.proofs.Common.{◌≡◌, ◌≢◌, ◌<◌, ◌∙◌, refl, ◌+◌, Some, true, false, arith, sym, ap, subst, inl, ℕ, List, [], ◌∷◌, ◌++◌, drop, slice_get}
use Rattle.std.proofs.lemmas.List.{append_assoc, append_cancel_left, drop_all}
use Rattle.lrpar_grammar.specs.Grammar.{Grammar, GrammarSymbol, IsWellFormed, Terminal, prod_len, prods_len, start_prod, symbols_of}
use Rattle.lrpar_grammar.specs.Tree.{Forest, Tree, Cons, Leaf, Nil, forest_leaves}
use Rattle.lrpar_table_rows.specs.Graph.{Graph, HasItem, graph_len}
use Rattle.lrpar_table_items.specs.Canonical.{IsCanonical}
use Rattle.lrpar_table_sentences.specs.Moves.{MoveOf, Makes, Takes, forest_moves, moves_of}
use Rattle.lrpar_table_sentences.specs.Texts.{AreTreesOf}
use Rattle.lrpar_conflict_derivations.specs.Completion.{Finishes, HasFinished}
use Rattle.lrpar_conflict_derivations.specs.Derivation.{IsNext, IsDerivation}
use Rattle.lrpar_table_sentences.proofs.AfterLemmas.{drop_at_get}
use Rattle.lrpar_conflict_derivations.proofs.LinkLemmas.{core_known}

-- two derivations that go on with two moves are derivations of two trees
pub derivations_differ : (g : Grammar) (before : List ℕ) (token : ℕ) (trees : Forest ℕ) (one other : MoveOf) (moves more : List MoveOf)
    (tree other_tree : Tree ℕ) → one ≢ other → IsDerivation g before token trees one moves tree → IsDerivation g before token trees other more other_tree
    → tree ≢ other_tree
derivations_differ g before token trees one other moves more tree other_tree apart first second same =
    let all : forest_moves trees ++ one ∷ first.later ≡ forest_moves trees ++ other ∷ second.later =
    sym first.comes ∙ first.moves_are ∙ ap moves_of same ∙ sym second.moves_are ∙ second.comes in
    let rest : one ∷ first.later ≡ other ∷ second.later = append_cancel_left (forest_moves trees) (one ∷ first.later) (other ∷ second.later) all in
    let equal : one ≡ other = cc in apart equal

module _ (g : Grammar) (front : List GrammarSymbol) (p k token : ℕ) (later : List MoveOf) (text : List ℕ) (trees : Forest ℕ)
    (fit : AreTreesOf g front trees) (finishes : Finishes g front p k later text) where
  -- of a complete item: its production is reduced next
  pub reduce_derivation : (rest : List MoveOf) → drop k (symbols_of g p) ≡ [] → later ≡ Makes p ∷ rest → IsNext g token text
      → (tree : Tree ℕ) × IsDerivation g (forest_leaves trees) token trees (Makes p) (forest_moves trees ++ later) tree
  reduce_derivation rest complete reduces next =
      let done = finishes trees Nil fit (subst (λ (w : List GrammarSymbol). AreTreesOf g w Nil) (sym complete) tt) in (
        done.0,
        record {
          fits = done.1.fits;
          moves_are = sym done.1.moves;
          later = rest;
          comes = ap (λ ms. forest_moves trees ++ ms) reduces;
          rest = text;
          text = done.1.tokens;
          ahead = next;
        },
      )

  -- of an item with the token after its dot: the token is shifted next, and then come trees of the symbols after it
  pub shift_derivation : (w : List GrammarSymbol) (after : Forest ℕ) → drop k (symbols_of g p) ≡ Terminal token ∷ w → AreTreesOf g w after
      → (tree : Tree ℕ) × IsDerivation g (forest_leaves trees) token trees (Takes token)
      (forest_moves trees ++ Takes token ∷ (forest_moves after ++ later)) tree
  shift_derivation w after at fit_after =
      let all : AreTreesOf g (Terminal token ∷ w) (Cons (Leaf token) after) = (refl, fit_after) in
      let done = finishes trees (Cons (Leaf token) after) fit
      (subst (λ (v : List GrammarSymbol). AreTreesOf g v (Cons (Leaf token) after)) (sym at) all) in (
        done.0,
        record {
          fits = done.1.fits;
          moves_are = sym done.1.moves;
          later = forest_moves after ++ later;
          comes = refl;
          rest = token ∷ (forest_leaves after ++ text);
          text = done.1.tokens;
          ahead = inl (forest_leaves after ++ text, refl);
        },
      )

-- once the moves are there that complete a tree
module _ (g : Grammar) (token : ℕ) (symbols : List GrammarSymbol) (p k : ℕ) (trees : Forest ℕ) (fit : AreTreesOf g symbols trees) (old new : List MoveOf)
    (front : old ≡ forest_moves trees) where
  pub reduce_done : HasFinished g token symbols p k true old new → p ≢ start_prod g → k ≡ prod_len g p
      → (tree : Tree ℕ) × IsDerivation g (forest_leaves trees) token trees (Makes p) new tree
  reduce_done done listed dot =
      let reduces = done.reduces listed in
      let complete : drop k (symbols_of g p) ≡ [] = drop_all k (symbols_of g p) (omega (arith, dot)) in
      let derivation = reduce_derivation g symbols p k token done.later done.finishes.0 trees fit done.finishes.1 reduces.0 complete reduces.1 (done.finishes.2 refl) in
      let moves : new ≡ forest_moves trees ++ done.later = done.moves ∙ ap (λ ms. ms ++ done.later) front in (
        derivation.0,
        subst (λ (ms : List MoveOf). IsDerivation g (forest_leaves trees) token trees (Makes p) ms derivation.0) (sym moves) derivation.1,
      )

  pub shift_done : (shifted middle : List MoveOf) (after : Forest ℕ) → shifted ≡ old ++ Takes token ∷ [] → middle ≡ shifted ++ forest_moves after
      → AreTreesOf g (drop (k + 1) (symbols_of g p)) after → slice_get (symbols_of g p) k ≡ Some (Terminal token)
      → HasFinished g token symbols p k false middle new
      → (tree : Tree ℕ) × IsDerivation g (forest_leaves trees) token trees (Takes token) new tree
  shift_done shifted middle after take more fit_after at done =
      let derivation = shift_derivation g symbols p k token done.later done.finishes.0 trees fit done.finishes.1 (drop (k + 1) (symbols_of g p)) after
      (drop_at_get (symbols_of g p) k (Terminal token) at) fit_after in
      let moves : new ≡ forest_moves trees ++ Takes token ∷ (forest_moves after ++ done.later) =
      done.moves ∙ ap (λ ms. ms ++ done.later) more ∙ ap (λ ms. (ms ++ forest_moves after) ++ done.later) take
      ∙ ap (λ ms. ((ms ++ Takes token ∷ []) ++ forest_moves after) ++ done.later) front
      ∙ (simp append_assoc) in (
        derivation.0,
        subst (λ (ms : List MoveOf). IsDerivation g (forest_leaves trees) token trees (Takes token) ms derivation.0) (sym moves) derivation.1,
      )

-- a complete item of a state is of a production of the grammar
pub complete_known : (g : Grammar) → IsWellFormed g → (graph : Graph) → IsCanonical g graph → (s p t : ℕ) → s < graph_len graph
    → HasItem graph s p (prod_len g p) t → p < prods_len g
complete_known g well graph canonical s p t low has_item = (core_known g well graph canonical s p (prod_len g p) low (t, has_item)).0
