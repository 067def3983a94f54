-- Which sets call for an action. Let a set have the item `A: v . w  {a}`, and let t be in First(w, a). Then the set has an item with t
-- after its dot, or a complete item with lookahead t. This goes by induction on why t is in First(w, a). If w is empty, t is a, and the
-- item itself is complete. If w begins with t, t is after the item's dot. If w is `B u`, t is in First(x u, a) for a production `B: x`,
-- and the set has `B: . x  {b}` for each b of First(u, a). So the claim is about more: about a core `A: v . w` and symbols u that come
-- after it, where the set has `A: v . w  {b}` for each b of First(u, a), and t is in First(w u, a). That First(u, a) isn't empty is
-- where each reachable rule has to be productive.
use Rattle.std.proofs.Common.{◌≡◌, ◌≤◌, ◌⊎◌, ◌∙◌, inl, inr, refl, sym, ap, subst, arith, ℕ, List, [], ◌∷◌, ◌++◌, drop, length, Some, slice_get}
use Rattle.std.proofs.lemmas.List.{append-nil, append_assoc, length-drop}
use Rattle.lrpar_grammar.specs.Grammar.{Grammar, GrammarSymbol, IsWellFormed, Nonterminal, Terminal, prod_len, symbols_of}
use Rattle.lrpar_grammar.specs.Tree.{forest_leaves}
use Rattle.lrpar_table_rows.specs.Graph.{ItemOf, item_at}
use Rattle.lrpar_table_first.specs.First.{Empty, IsFirst, Rule, Token}
use Rattle.lrpar_table_items.specs.ItemSets.{Added, Adds, IsReachedBy}
use Rattle.lrpar_table_build.proofs.ReachedLemmas.{head_after, reached_items}
use Rattle.lrpar_table_sentences.specs.Reachable.{EachReachableHasTree}
use Rattle.lrpar_table_sentences.proofs.AfterLemmas.{have_trees, item_reached, rest_reached}
use Rattle.lrpar_table_conditions.proofs.FirstTokenLemmas.{first_token, forest_first}

-- an item of the set has token t after its dot, or is complete with lookahead t
abbrev pub CallsFor : Grammar → (ItemOf → Type 0) → ℕ → Type 0
CallsFor g items t =
    ((x : ItemOf) × items x × (slice_get (symbols_of g x.prod) x.dot ≡ Some (Terminal t))) ⊎ ((p : ℕ) × items (item_at p (prod_len g p) t))

-- First of no symbols, before a, is a alone
first_of_none : (g : Grammar) (a : ℕ) (w : List GrammarSymbol) (t : ℕ) → IsFirst g a w t → w ≡ [] → t ≡ a
first_of_none g a w t Empty is = refl
first_of_none g a w t (Token s v) is = absurd (cc)
first_of_none g a w t (Rule p r v s known by first) is = absurd (cc)

-- what is in First(u w, a) is in First(u, b) for some b of First(w, a), if that has any token
first_split : (g : Grammar) (a c : ℕ) (w : List GrammarSymbol) → IsFirst g a w c → (v : List GrammarSymbol) (t : ℕ) → IsFirst g a v t
    → (u : List GrammarSymbol) → v ≡ u ++ w → (b : ℕ) × IsFirst g a w b × IsFirst g b u t
first_split g a c w some v t first [] is = (t, subst (λ (x : List GrammarSymbol). IsFirst g a x t) is first, Empty)
first_split g a c w some v t Empty (s ∷ u) is = absurd (cc)
first_split g a c w some v t (Token k x) (Nonterminal r ∷ u) is = absurd (cc)
first_split g a c w some v t (Token k x) (Terminal n ∷ u) is =
    let same : k ≡ n = cc in (c, some, subst (λ (m : ℕ). IsFirst g c (Terminal m ∷ u) k) same (Token k u))
first_split g a c w some v t (Rule p r x k known by first) (Terminal n ∷ u) is = absurd (cc)
first_split g a c w some v t (Rule p r x k known by first) (Nonterminal m ∷ u) is =
    let same : r ≡ m = cc in
    let rest : x ≡ u ++ w = cc in
    let whole : symbols_of g p ++ x ≡ (symbols_of g p ++ u) ++ w =
    ap (λ (y : List GrammarSymbol). symbols_of g p ++ y) rest ∙ sym (append_assoc (symbols_of g p) u w) in
    let inner = first_split g a c w some (symbols_of g p ++ x) k first (symbols_of g p ++ u) whole in
    (inner.0, inner.1, subst (λ (n : ℕ). IsFirst g inner.0 (Nonterminal n ∷ u) k) same (Rule p r u k known by inner.2))

-- nothing is left only at the end of a list
left_none : {X : Type 0} (xs : List X) (k : ℕ) → drop k xs ≡ [] → k ≤ length xs → k ≡ length xs
left_none {X} xs k none low =
    let many = length-drop k xs in
    let empty = ap (λ (l : List X). length l) none in omega (arith, many, empty, low)

-- a set has what its items add
pub reached_more : (g : Grammar) (path : List GrammarSymbol) (x y : ItemOf) → IsReachedBy g path x → Adds g x y → IsReachedBy g path y
reached_more g [] x y has adds = Added x y has adds
reached_more g (s ∷ path) x y has adds = Added x y has adds

module _ (g : Grammar) (well : IsWellFormed g) (each : EachReachableHasTree g) (path : List GrammarSymbol) where
  calls : (a : ℕ) (w : List GrammarSymbol) (t : ℕ) → IsFirst g a w t → (p k : ℕ) (v rest : List GrammarSymbol) (c : ℕ)
      → drop k (symbols_of g p) ≡ v → k ≤ prod_len g p → w ≡ v ++ rest → IsFirst g a rest c
      → ((b : ℕ) → IsFirst g a rest b → IsReachedBy g path (item_at p k b)) → CallsFor g (IsReachedBy g path) t
  calls a w t first p k [] rest c left low is some has =
      let complete : k ≡ prod_len g p = left_none (symbols_of g p) k left low in
      let item = has t (subst (λ (x : List GrammarSymbol). IsFirst g a x t) is first) in
      inr (p, subst (λ (n : ℕ). IsReachedBy g path (item_at p n t)) complete item)
  calls a w t Empty p k (s ∷ v) rest c left low is some has = absurd (cc)
  calls a w t (Token n x) p k (Nonterminal m ∷ v) rest c left low is some has = absurd (cc)
  calls a w t (Token n x) p k (Terminal m ∷ v) rest c left low is some has =
      let same : m ≡ n = cc in
      let at = head_after (symbols_of g p) k (Terminal m) v left in
      inl (item_at p k c, has c some, subst (λ (i : ℕ). slice_get (symbols_of g p) k ≡ Some (Terminal i)) same at)
  calls a w t (Rule q r x n known by first) p k (Terminal m ∷ v) rest c left low is some has = absurd (cc)
  calls a w t (Rule q r x n known by first) p k (Nonterminal m ∷ v) rest c left low is some has =
      let same : r ≡ m = cc in
      let later : x ≡ v ++ rest = cc in
      let reached = item_reached g well path (item_at p k c) (has c some) in
      let trees = have_trees g each v (rest_reached g well p k (Nonterminal m) v left reached) in
      let token = first_token (λ (i : ℕ). i) (forest_leaves trees.0) c in
      let begins : IsFirst g a (v ++ rest) token = forest_first (λ (i : ℕ). i) g a trees.0 v rest c trees.1 some in
      calls a (symbols_of g q ++ x) n first q 0 (symbols_of g q) (v ++ rest) token refl (omega arith)
      (ap (λ (y : List GrammarSymbol). symbols_of g q ++ y) later) begins
      (λ b front.
      let parts = first_split g a c rest some (v ++ rest) b front v refl in
      reached_more g path (item_at p k parts.0) (item_at q 0 b) (has parts.0 parts.1)
      (record {
        rule = m;
        rest = v;
        before = left;
        known = known;
        of_rule = by ∙ same;
        fresh = refl;
        first = parts.2;
      }))

  -- a set calls for an action at each first token of what comes after an item's dot, before its lookahead
  pub item_calls : (x : ItemOf) → IsReachedBy g path x → (t : ℕ) → IsFirst g x.token (drop x.dot (symbols_of g x.prod)) t
      → CallsFor g (IsReachedBy g path) t
  item_calls x here t first =
      let v = drop x.dot (symbols_of g x.prod) in
      calls x.token v t first x.prod x.dot v [] x.token refl (reached_items g well path x here).dot (sym (append-nil v)) Empty
      (λ b only.
      let same : b ≡ x.token = first_of_none g x.token [] b only refl in
      subst (λ (n : ℕ). IsReachedBy g path (item_at x.prod x.dot n)) (sym same) here)
