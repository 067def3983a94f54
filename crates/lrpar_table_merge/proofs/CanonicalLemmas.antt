-- The canonical collection is one of merged item sets: each state has exactly the items that it holds by the gotos. It has no others, by
-- induction over how a state holds an item; and it has all of them, by induction over the path that reaches its set.
use Rattle.std.proofs.Common.{◌≡◌, ◌<◌, ◌+◌, refl, sym, ap, subst, inl, inr, arith, ℕ, List, [], ◌∷◌}
use Rattle.lrpar_grammar.specs.Grammar.{Grammar, GrammarSymbol, IsWellFormed, end_token, start_prod}
use Rattle.lrpar_table_rows.specs.Graph.{ItemOf, graph_len, item_at}
use Rattle.lrpar_table_items.specs.Canonical.{AreCanonical, AreSame, HasAfterDot, LeadsTo, sets_of}
use Rattle.lrpar_table_items.specs.ItemSets.{Adds, IsAdvanced, IsReachedBy, IsStartItem, Own}
use Rattle.lrpar_table_build.proofs.ReachedLemmas.{added_is_listed, closure_cases}
use Rattle.lrpar_table_build.proofs.SafeLemmas.{advanced_from}
use Rattle.lrpar_table_build.proofs.SetLemmas.{next_more, same_back, same_on}
use Rattle.lrpar_table_merge.specs.Held.{Closes, IsHeld, Starts, Steps}
use Rattle.lrpar_table_merge.specs.Merged.{AreMerged, CanonicalGoes}
use Rattle.lrpar_table_merge.specs.MergedLaws.{CanonicalSetsAreMerged}
use Rattle.lrpar_table_merge.proofs.MergedHeldLemmas.{added_to}
use Rattle.lrpar_table_merge.proofs.WithinLemmas.{closure_held, closure_root}

module _ (g : Grammar) (len : ℕ) (sets : ℕ → ItemOf → Type 0) (well : IsWellFormed g) (canonical : AreCanonical g len sets) where
  abbrev Goes : ℕ → GrammarSymbol → ℕ → Type 0
  Goes = CanonicalGoes g len sets

  -- the start item
  abbrev first_item : ItemOf
  first_item = item_at (start_prod g) 0 (end_token g)

  some_state : 0 < len
  some_state = let first = canonical.all [] first_item (Own first_item refl) in let low : first.0 < len = first.1 in omega (arith, low)

  -- a set has what its items add
  has_added : (s : ℕ) (x y : ItemOf) → s < len → sets s x → Adds g x y → sets s y
  has_added s x y below has adds =
      let reached = canonical.reached s below in (reached.1 y).1 (added_to g reached.0 x y ((reached.1 x).0 has) adds)

  -- what a state holds is in its set
  in_set : (s : ℕ) (x : ItemOf) → IsHeld g Goes s x → (s < len) × sets s x
  in_set s x (Starts y is) = (some_state, (canonical.start y).1 (Own y is))
  in_set s x (Closes r y z h adds) = let from = in_set r y h in (from.0, has_added r y z from.0 from.1 adds)
  in_set s x (Steps r n X y go h at) =
      let from = in_set r y h in
      let z = item_at y.prod (y.dot + 1) y.token in (go.1, (go.2 z).1 (Own z (y, from.1, at, refl)))

  -- the gotos of sets with the same items have the same items
  leads : (path : List GrammarSymbol) (X : GrammarSymbol) (r s : ℕ) → AreSame (sets r) (IsReachedBy g path) → AreSame (sets s) (IsReachedBy g (X ∷ path))
      → LeadsTo g sets r X s
  leads path X r s one two z = (
    λ h. next_more g (IsReachedBy g path) (sets r) X (λ i. (one i).1) z ((two z).0 h),
    λ h. (two z).1 (next_more g (sets r) (IsReachedBy g path) X (λ i. (one i).0) z h),
  )

  -- a state holds what is in its set
  path_held : (path : List GrammarSymbol) (s : ℕ) → s < len → AreSame (sets s) (IsReachedBy g path) → (x : ItemOf) → IsReachedBy g path x
      → IsHeld g Goes s x
  path_held [] s below same x h =
      let first : s ≡ 0 = canonical.once s 0 below some_state
      (same_on (sets s) (IsReachedBy g []) (sets 0) same (same_back (sets 0) (IsReachedBy g []) canonical.start)) in
      subst (λ (n : ℕ). IsHeld g Goes n x) (sym first) (closure_held g Goes 0 (IsStartItem g) (λ y is. Starts y is) x h)
  path_held (X ∷ path) s below same x h =
      let root = closure_root g (IsAdvanced g (IsReachedBy g path) X) x h in
      let from = root.1 in
      let before = canonical.all path from.0 from.1 in
      let r = before.0 in
      let after : HasAfterDot g sets r X = (from.0, (before.2 from.0).1 from.1, from.2) in
      let go : Goes r X s = (after, below, leads path X r s before.2 same) in
      let advanced : (y : ItemOf) → IsAdvanced g (IsReachedBy g path) X y → IsHeld g Goes s y =
      λ y own.
      let z = own.0 in
      subst (IsHeld g Goes s) (sym own.3) (Steps r s X z go (path_held path r before.1 before.2 z own.1) own.2) in
      closure_held g Goes s (IsAdvanced g (IsReachedBy g path) X) advanced x h

  -- a set with a symbol after a dot has a goto
  next_state : (s : ℕ) (X : GrammarSymbol) → s < len → HasAfterDot g sets s X → (n : ℕ) × Goes s X n
  next_state s X below before =
      let reached = canonical.reached s below in
      let x = before.0 in
      let y = item_at x.prod (x.dot + 1) x.token in
      let next = canonical.all (X ∷ reached.0) y (Own y (x, (reached.1 x).0 before.1, before.2, refl)) in
      (next.0, (before, next.1, leads reached.0 X s next.0 reached.1 next.2))

  -- no goto is the set of the start state
  never_to_start : (s : ℕ) (X : GrammarSymbol) → LeadsTo g sets s X 0 → ⊥
  never_to_start s X to =
      elim (closure_cases g (IsAdvanced g (sets s) X) first_item ((to first_item).0 ((canonical.start first_item).1 (Own first_item refl)))) [
        | inl own ↦ let moved : 0 ≡ own.0.dot + 1 = ap (λ y. y.dot) own.3 in omega (arith, moved)
        | inr more ↦ added_is_listed g well more.0 first_item more.2 refl
      ]

  are_merged : AreMerged g len sets Goes
  are_merged = record {
    start = some_state;
    some = canonical.some;
    held = λ s below x. (
      λ h. let reached = canonical.reached s below in path_held reached.0 s below reached.1 x ((reached.1 x).0 h),
      λ h. (in_set s x h).1,
    );
    next = next_state;
    step = λ s X n below go. record {
      before = go.0;
      within = go.1;
      never_back = λ first. never_to_start s X (subst (LeadsTo g sets s X) first go.2);
      cores = λ p k t has. let from = advanced_from g (sets s) X p k t ((go.2 (item_at p (k + 1) t)).0 has) in (from.0, (t, from.1));
    };
    once = λ s X n m below to other.
        canonical.once n m to.1 other.1 (λ x. (λ h. (other.2 x).1 ((to.2 x).0 h), λ h. (to.2 x).1 ((other.2 x).0 h)));
  }

pub canonical_sets_are_merged : CanonicalSetsAreMerged
canonical_sets_are_merged g graph well canonical = are_merged g (graph_len graph) (sets_of graph) well canonical
