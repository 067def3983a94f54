-- How a derivation is completed from an item: from the start item by nothing; from an item with its dot moved on by what completes it from
-- the item; and from an item that another one adds by its own reduction, trees of the symbols after the other's rule, and then what
-- completes it from the other.
use Rattle.std.proofs.Common.{◌≡◌, ◌<◌, ◌+◌, ◌≤◌, ◌∙◌, refl, sym, ap, subst, inl, inr, arith, ℕ, zero, suc, Bool, true, false, IsTrue, List, [], ◌∷◌, ◌++◌, Some, drop, length, reverse, slice_get}
use Rattle.std.proofs.lemmas.List.{append_assoc, append-nil, reverse-append}
use Rattle.std.proofs.lemmas.Bool.{false≢true}
use Rattle.lrpar_grammar.specs.Grammar.{Grammar, GrammarSymbol, IsWellFormed, Nonterminal, end_token, prods_len, rule_of, start_prod, symbols_of}
use Rattle.lrpar_grammar.specs.Tree.{Forest, Tree, Branch, Cons, Nil, forest_leaves, leaves}
use Rattle.lrpar_grammar.proofs.ForestLemmas.{joined, joined_leaves, splits}
use Rattle.lrpar_table_rows.specs.Graph.{ItemOf, item_at}
use Rattle.lrpar_table_items.specs.ItemSets.{IsAdvanced, IsReachedBy}
use Rattle.lrpar_table_build.proofs.ReachedLemmas.{closure_cases, start_is_fresh}
use Rattle.lrpar_table_sentences.specs.Moves.{MoveOf, Makes, forest_moves, moves_of}
use Rattle.lrpar_table_sentences.specs.Texts.{AreTreesOf, IsTreeOf}
use Rattle.lrpar_table_sentences.proofs.AfterLemmas.{drop_at_get}
use Rattle.lrpar_conflict_derivations.specs.Completion.{Finishes, FinishesAt, IsNextIf, LeadsUp, PathItem}
use Rattle.lrpar_conflict_derivations.specs.Derivation.{IsNext}

-- the moves of two lists of trees
pub joined_moves : (first others : Forest ℕ) → forest_moves (joined first others) ≡ forest_moves first ++ forest_moves others
joined_moves Nil others = refl
joined_moves (Cons t ts) others =
    ap (λ xs. moves_of t ++ xs) (joined_moves ts others) ∙ sym (append_assoc (moves_of t) (forest_moves ts) (forest_moves others))

-- trees of one symbol
pub one_tree : (g : Grammar) (trees : Forest ℕ) (s : GrammarSymbol) → AreTreesOf g (s ∷ []) trees
    → (tree : Tree ℕ) × IsTreeOf g s tree × (trees ≡ Cons tree Nil)
one_tree g Nil s fit = absurd fit
one_tree g (Cons t Nil) s fit = (t, fit.0, refl)
one_tree g (Cons t (Cons u us)) s fit = absurd fit.1

no_trees : (g : Grammar) (trees : Forest ℕ) → AreTreesOf g [] trees → trees ≡ Nil
no_trees g Nil fit = refl
no_trees g (Cons t ts) fit = absurd fit

module _ (g : Grammar) (well : IsWellFormed g) where
  -- from the start item: there the symbol after the dot is the start rule
  pub start_finishes : Finishes g [] (start_prod g) 0 [] []
  start_finishes trees rest fit rest_fit =
      let none = no_trees g trees fit in
      let one = one_tree g rest (Nonterminal g.start) (subst (λ (w : List GrammarSymbol). AreTreesOf g w rest) well.last_symbols rest_fit) in (
        one.0,
        record {
          fits = one.1;
          moves = sym (ap (λ ts. forest_moves ts ++ (forest_moves rest ++ [])) none ∙ append-nil (forest_moves rest) ∙ ap forest_moves one.2 ∙ append-nil (moves_of one.0));
          tokens = sym (ap (λ ts. forest_leaves ts ++ (forest_leaves rest ++ [])) none ∙ append-nil (forest_leaves rest) ∙ ap forest_leaves one.2 ∙ append-nil (leaves one.0));
        },
      )

  -- from an item with its dot moved on by a symbol
  pub moved_finishes : (front : List GrammarSymbol) (p k : ℕ) (x : GrammarSymbol) (later : List MoveOf) (text : List ℕ)
      → slice_get (symbols_of g p) k ≡ Some x → Finishes g front p k later text → Finishes g (front ++ x ∷ []) p (k + 1) later text
  moved_finishes front p k x later text at finishes trees rest fit rest_fit =
      let parts = splits (λ (t : ℕ). t) g trees front (x ∷ []) fit in
      let one = one_tree g parts.others x parts.others_fit in
      let after : AreTreesOf g (drop k (symbols_of g p)) (Cons one.0 rest) =
      subst (λ (w : List GrammarSymbol). AreTreesOf g w (Cons one.0 rest)) (sym (drop_at_get (symbols_of g p) k x at)) (one.1, rest_fit) in
      let done = finishes parts.first (Cons one.0 rest) parts.first_fits after in
      let both : trees ≡ joined parts.first (Cons one.0 Nil) = parts.both ∙ ap (joined parts.first) one.2 in
      let moves : forest_moves trees ≡ forest_moves parts.first ++ moves_of one.0 =
      ap forest_moves both ∙ joined_moves parts.first (Cons one.0 Nil) ∙ ap (λ xs. forest_moves parts.first ++ xs) (append-nil (moves_of one.0)) in
      let tokens : forest_leaves trees ≡ forest_leaves parts.first ++ leaves one.0 =
      ap forest_leaves both ∙ joined_leaves parts.first (Cons one.0 Nil) ∙ ap (λ xs. forest_leaves parts.first ++ xs) (append-nil (leaves one.0)) in (
        done.0,
        record {
          fits = done.1.fits;
          moves = done.1.moves ∙ (simp append_assoc) ∙ ap (λ xs. xs ++ (forest_moves rest ++ later)) (sym moves);
          tokens = done.1.tokens ∙ (simp append_assoc) ∙ ap (λ xs. xs ++ (forest_leaves rest ++ text)) (sym tokens);
        },
      )

  -- from an item of a production of the rule after another item's dot
  pub added_finishes : (front : List GrammarSymbol) (q j p : ℕ) (w : List GrammarSymbol) (trees_after : Forest ℕ) (later : List MoveOf) (text : List ℕ)
      → drop j (symbols_of g q) ≡ Nonterminal (rule_of g p) ∷ w → p < prods_len g → AreTreesOf g w trees_after
      → Finishes g front q j later text
      → Finishes g front p 0 (Makes p ∷ forest_moves trees_after ++ later) (forest_leaves trees_after ++ text)
  added_finishes front q j p w trees_after later text after known fit_after finishes trees rest fit rest_fit =
      let node : IsTreeOf g (Nonterminal (rule_of g p)) (Branch p rest) = (known, refl, rest_fit) in
      let all : AreTreesOf g (drop j (symbols_of g q)) (Cons (Branch p rest) trees_after) =
      subst (λ (v : List GrammarSymbol). AreTreesOf g v (Cons (Branch p rest) trees_after)) (sym after) (node, fit_after) in
      let done = finishes trees (Cons (Branch p rest) trees_after) fit all in (
        done.0,
        record { fits = done.1.fits; moves = done.1.moves ∙ (simp append_assoc); tokens = done.1.tokens ∙ (simp append_assoc) },
      )

  -- an item with its dot moved on by k symbols comes from one with the dot at the front, k symbols back; and what completes a derivation
  -- from there completes it from here
  pub record ComesFrom (path : List GrammarSymbol) (p k t : ℕ) : Type 0 where
    pub within : k ≤ length path
    pub item : IsReachedBy g (drop k path) (item_at p 0 t)
    pub finishes : (later : List MoveOf) (text : List ℕ) → Finishes g (reverse (drop k path)) p 0 later text → Finishes g (reverse path) p k later text

  pub comes_from : (k : ℕ) (path : List GrammarSymbol) (p t : ℕ) → IsReachedBy g path (item_at p k t) → ComesFrom path p k t
  comes_from zero path p t reached = record { within = omega arith; item = reached; finishes = λ later text h. h }
  comes_from (suc k) [] p t reached = let front : suc k ≡ 0 = start_is_fresh g well (item_at p (suc k) t) reached in absurd (omega (arith, front))
  comes_from (suc k) (s ∷ path) p t reached =
      elim (closure_cases g (IsAdvanced g (IsReachedBy g path) s) (item_at p (suc k) t) reached) [
        | inl own ↦
            let x = own.0 in
            let prod : x.prod ≡ p = sym (ap (λ y. y.prod) own.3) in
            let dot : x.dot ≡ k = let moved : suc k ≡ x.dot + 1 = ap (λ y. y.dot) own.3 in omega (arith, moved) in
            let token : x.token ≡ t = sym (ap (λ y. y.token) own.3) in
            let same : x ≡ item_at p k t = let is : item_at x.prod x.dot x.token ≡ item_at p k t = cc in is in
            let at : slice_get (symbols_of g p) k ≡ Some s = subst (λ (y : ItemOf). slice_get (symbols_of g y.prod) y.dot ≡ Some s) same own.2 in
            let before = comes_from k path p t (subst (IsReachedBy g path) same own.1) in record {
              within = let low = before.within in omega (arith, low);
              item = before.item;
              finishes = λ later text h.
                  let next : k + 1 ≡ suc k = omega arith in
                  let moved : Finishes g (reverse path ++ s ∷ []) p (suc k) later text =
                  subst (λ (n : ℕ). Finishes g (reverse path ++ s ∷ []) p n later text) next
                  (moved_finishes (reverse path) p k s later text at (before.finishes later text h)) in
                  subst (λ (w : List GrammarSymbol). Finishes g w p (suc k) later text) (sym (reverse-append (s ∷ []) path)) moved;
            }
        | inr more ↦ let front : suc k ≡ 0 = more.2.fresh in absurd (omega (arith, front))
      ]

module _ (g : Grammar) (token : ℕ) where
  -- no move leads nowhere
  pub up_none : (from : PathItem) → LeadsUp g token from [] from
  up_none from later h = h

  -- one path up, and then another one
  pub up_then : (from by to : PathItem) (moves more : List MoveOf) → LeadsUp g token from moves by → LeadsUp g token by more to
      → LeadsUp g token from (moves ++ more) to
  up_then from by to moves more first second later h =
      subst (λ (ms : List MoveOf). FinishesAt g token from ms) (sym (append_assoc moves more later)) (first (more ++ later) (second later h))

  -- with no move, back to where the dot is at the front
  pub up_back : (well : IsWellFormed g) (path : List GrammarSymbol) (p k t : ℕ) (asked : Bool) → ComesFrom g well path p k t
      → LeadsUp g token (record { front = reverse path; prod = p; dot = k; asked = asked }) []
      (record { front = reverse (drop k path); prod = p; dot = 0; asked = asked })
  up_back well path p k t asked from later h = (h.0, from.finishes later h.0 h.1, h.2)

  -- by a node and trees after it, up to an item that waits for the node's rule: if the token is asked for, these trees begin with it; or
  -- they have no tokens, and it is asked for further up
  pub up_added : (well : IsWellFormed g) (front : List GrammarSymbol) (q j p : ℕ) (w : List GrammarSymbol) (trees : Forest ℕ) (asked further : Bool)
      → drop j (symbols_of g q) ≡ Nonterminal (rule_of g p) ∷ w → p < prods_len g → AreTreesOf g w trees
      → ((text : List ℕ) → IsNextIf g token further text → IsNextIf g token asked (forest_leaves trees ++ text))
      → LeadsUp g token (record { front = front; prod = p; dot = 0; asked = asked }) (Makes p ∷ forest_moves trees)
      (record { front = front; prod = q; dot = j; asked = further })
  up_added well front q j p w trees asked further after known fit ahead later h =
      (forest_leaves trees ++ h.0, added_finishes g well front q j p w trees later h.0 after known fit h.1, ahead h.0 h.2)

  -- at the start item nothing is left to do: the end token comes next
  pub up_end : IsWellFormed g → (from : PathItem) (moves : List MoveOf) (asked : Bool) → (IsTrue asked → token ≡ end_token g)
      → LeadsUp g token from moves (record { front = []; prod = start_prod g; dot = 0; asked = asked }) → FinishesAt g token from moves
  up_end well from moves asked last up =
      subst (λ (ms : List MoveOf). FinishesAt g token from ms) (append-nil moves)
      (up [] ([], start_finishes g well, λ is. inr (last is, refl)))

  -- trees that begin with the token
  pub begin_ahead : (trees : Forest ℕ) (rest : List ℕ) (further : Bool) → forest_leaves trees ≡ token ∷ rest
      → (text : List ℕ) → IsNextIf g token further text → IsNextIf g token true (forest_leaves trees ++ text)
  begin_ahead trees rest further is text h _ = inl (rest ++ text, ap (λ xs. xs ++ text) is)

  -- trees that have no tokens
  pub through_ahead : (trees : Forest ℕ) → forest_leaves trees ≡ []
      → (text : List ℕ) → IsNextIf g token true text → IsNextIf g token true (forest_leaves trees ++ text)
  through_ahead trees none text h asked = subst (λ (xs : List ℕ). IsNext g token (xs ++ text)) (sym none) (h asked)

  -- if it isn't asked for
  pub any_ahead : (trees : Forest ℕ) (further : Bool) (text : List ℕ) → IsNextIf g token further text → IsNextIf g token false (forest_leaves trees ++ text)
  any_ahead trees further text h asked = absurd (false≢true asked)
