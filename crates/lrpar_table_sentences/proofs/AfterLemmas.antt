-- The symbols after a dot. The rules of items are reachable, and so is each rule after their dots; so the symbols after a dot
-- have trees, if each reachable rule has one.
use Rattle.std.proofs.Common.{◌≡◌, ◌<◌, ◌+◌, refl, sym, ap, subst, arith, ℕ, zero, suc, List, [], ◌∷◌, All, drop, Some, slice_get}
use Rattle.std.specs.List.{Contains}
use Rattle.std.proofs.lemmas.List.Elements.{All-cons, All-drop, All-head, All-nil, All-tail, Contains-append_right}
use Rattle.std.proofs.lemmas.Option.{get_or_from_slice_get, slice_get_within}
use Rattle.lrpar_grammar.specs.Grammar.{Grammar, GrammarSymbol, IsWellFormed, Nonterminal, Terminal, prods_len, rule_of, symbols_of}
use Rattle.lrpar_grammar.specs.Tree.{Tree, Cons, Leaf, Nil}
use Rattle.lrpar_table_rows.specs.Graph.{ItemOf}
use Rattle.lrpar_table_items.specs.ItemSets.{IsReachedBy}
use Rattle.lrpar_table_build.proofs.ReachedLemmas.{head_after, known_by_symbol, reached_each}
use Rattle.lrpar_table_sentences.specs.Reachable.{Added, EachReachableHasTree, IsReachableRule, IsReachableSymbol, OnRight}
use Rattle.lrpar_table_sentences.specs.Texts.{HaveTrees, IsTreeOf}

-- what is left of a list before one of its elements
pub drop_at_get : {X : Type 0} (xs : List X) (k : ℕ) (x : X) → slice_get xs k ≡ Some x → drop k xs ≡ x ∷ drop (k + 1) xs
drop_at_get [] zero x at = absurd (cc)
drop_at_get [] (suc k) x at = absurd (cc)
drop_at_get (y ∷ ys) zero x at = let same : y ≡ x = cc in ap (λ z. z ∷ ys) same
drop_at_get (y ∷ ys) (suc k) x at =
    let same : suc (k + 1) ≡ suc k + 1 = omega arith in subst (λ (n : ℕ). drop k ys ≡ x ∷ drop n (y ∷ ys)) same (drop_at_get ys k x at)

-- a symbol in its place is one of the list
pub contains_at : {X : Type 0} (xs : List X) (k : ℕ) (x : X) → slice_get xs k ≡ Some x → Contains xs x
contains_at xs k x at = (k, slice_get_within xs k x at, get_or_from_slice_get xs k x x at)

module _ (g : Grammar) (well : IsWellFormed g) where
  -- a rule after a dot of a reachable rule is reachable
  pub after_reached : (q j r : ℕ) (w : List GrammarSymbol) → drop j (symbols_of g q) ≡ Nonterminal r ∷ w → IsReachableRule g (rule_of g q) → IsReachableRule g r
  after_reached q j r w before reached =
      let at = head_after (symbols_of g q) j (Nonterminal r) w before in
      OnRight q r (known_by_symbol g well q j (Nonterminal r) at) reached (contains_at (symbols_of g q) j (Nonterminal r) at)

  -- an item's rule is reachable
  pub item_reached : (path : List GrammarSymbol) (x : ItemOf) → IsReachedBy g path x → IsReachableRule g (rule_of g x.prod)
  item_reached =
      reached_each g (λ x. IsReachableRule g (rule_of g x.prod))
      (λ x y reached adds. subst (IsReachableRule g) (sym adds.of_rule) (after_reached x.prod x.dot adds.rule adds.rest adds.before reached))
      (subst (IsReachableRule g) (sym well.last_rule) Added)
      (λ x s reached at. reached)

  -- symbols of a reachable rule are reachable
  symbols_reached : (q : ℕ) → q < prods_len g → IsReachableRule g (rule_of g q) → (w : List GrammarSymbol) → ((s : GrammarSymbol) → Contains w s → Contains (symbols_of g q) s)
      → All (IsReachableSymbol g) w
  symbols_reached q known reached [] in_all = All-nil (IsReachableSymbol g)
  symbols_reached q known reached (Terminal t ∷ w) in_all =
      All-cons (IsReachableSymbol g) (Terminal t) w tt (symbols_reached q known reached w (λ s h. in_all s (Contains-append_right (Terminal t ∷ []) w s h)))
  symbols_reached q known reached (Nonterminal r ∷ w) in_all =
      All-cons (IsReachableSymbol g) (Nonterminal r) w (OnRight q r known reached (in_all (Nonterminal r) (0, omega arith, refl)))
      (symbols_reached q known reached w (λ s h. in_all s (Contains-append_right (Nonterminal r ∷ []) w s h)))

  pub prod_reached : (q : ℕ) → q < prods_len g → IsReachableRule g (rule_of g q) → All (IsReachableSymbol g) (symbols_of g q)
  prod_reached q known reached = symbols_reached q known reached (symbols_of g q) (λ s h. h)

  -- and so are those after one of them
  pub rest_reached : (q j : ℕ) (s : GrammarSymbol) (w : List GrammarSymbol) → drop j (symbols_of g q) ≡ s ∷ w → IsReachableRule g (rule_of g q)
      → All (IsReachableSymbol g) w
  rest_reached q j s w before reached =
      let at = head_after (symbols_of g q) j s w before in
      let known = known_by_symbol g well q j s at in
      All-tail (IsReachableSymbol g) s w
      (subst (All (IsReachableSymbol g)) before (All-drop (IsReachableSymbol g) j (symbols_of g q) (prod_reached q known reached)))

module _ (g : Grammar) (each : EachReachableHasTree g) where
  -- reachable symbols have trees
  symbol_tree : (s : GrammarSymbol) → IsReachableSymbol g s → (tree : Tree ℕ) × IsTreeOf g s tree
  symbol_tree (Terminal t) reached = (Leaf t, refl)
  symbol_tree (Nonterminal r) reached = each r reached

  pub have_trees : (w : List GrammarSymbol) → All (IsReachableSymbol g) w → HaveTrees g w
  have_trees [] all = (Nil, tt)
  have_trees (s ∷ w) all =
      let tree = symbol_tree s (All-head (IsReachableSymbol g) s w all) in
      let trees = have_trees w (All-tail (IsReachableSymbol g) s w all) in (Cons tree.0 trees.0, (tree.1, trees.1))
