-- What the items that states hold have in common. Each of them is in a set that gotos reach, so what holds of the items of all such sets
-- holds of it.
use Rattle.std.proofs.Common.{◌≡◌, ◌≢◌, ◌<◌, ◌+◌, refl, sym, ap, subst, arith, ℕ, List, [], ◌∷◌, Some, slice_get}
use Rattle.lrpar_grammar.specs.Grammar.{Grammar, GrammarSymbol, IsWellFormed, Nonterminal, end_token, rule_of, start_prod, symbols_of}
use Rattle.lrpar_table_rows.specs.Graph.{ItemOf, item_at}
use Rattle.lrpar_table_rows.specs.Safe.{IsItem}
use Rattle.lrpar_table_items.specs.Canonical.{HasAfterDot}
use Rattle.lrpar_table_items.specs.ItemSets.{Added, Adds, IsReachedBy, Own}
use Rattle.lrpar_table_build.proofs.ReachedLemmas.{added_is_listed, head_after, reached_at_end, reached_items}
use Rattle.lrpar_table_merge.specs.Held.{Closes, IsHeld, Starts, Steps}
use Rattle.lrpar_table_merge.specs.Merged.{AreMerged}

-- the item set that a path leads to has what its items add
pub added_to : (g : Grammar) (path : List GrammarSymbol) (x y : ItemOf) → IsReachedBy g path x → Adds g x y → IsReachedBy g path y
added_to g [] x y has adds = Added x y has adds
added_to g (s ∷ path) x y has adds = Added x y has adds

module _ (g : Grammar) (goes : ℕ → GrammarSymbol → ℕ → Type 0) where
  -- an item that a state holds is in a set that gotos reach
  pub held_reached : (s : ℕ) (x : ItemOf) → IsHeld g goes s x → (path : List GrammarSymbol) × IsReachedBy g path x
  held_reached s x (Starts y is) = ([], Own y is)
  held_reached s x (Closes r y z h adds) = let from = held_reached r y h in (from.0, added_to g from.0 y z from.1 adds)
  held_reached s x (Steps r n X y go h at) =
      let from = held_reached r y h in
      let z = item_at y.prod (y.dot + 1) y.token in (X ∷ from.0, Own z (y, from.1, at, refl))

  module _ (well : IsWellFormed g) where
    -- so it is one of the grammar
    pub held_items : (s : ℕ) (x : ItemOf) → IsHeld g goes s x → IsItem g x.prod x.dot x.token
    held_items s x h = let from = held_reached s x h in reached_items g well from.0 x from.1

    -- the start production's items have the end token
    pub held_at_end : (s : ℕ) (x : ItemOf) → IsHeld g goes s x → x.prod ≡ start_prod g → x.token ≡ end_token g
    held_at_end s x h = let from = held_reached s x h in reached_at_end g well from.0 x from.1

    -- only state 0 has the start item
    pub held_start_item : (s : ℕ) (x : ItemOf) → IsHeld g goes s x → x.prod ≡ start_prod g → x.dot ≡ 0 → s ≡ 0
    held_start_item s x (Starts y is) last fresh = refl
    held_start_item s x (Closes r y z h adds) last fresh = absurd (added_is_listed g well y z adds last)
    held_start_item s x (Steps r n X y go h at) last fresh = absurd (omega (arith, fresh))

  -- for an item with its dot at the start, other than the start item, an item of its state has its rule after the dot
  pub held_with_rule : (s : ℕ) (y : ItemOf) → IsHeld g goes s y → y.dot ≡ 0 → y.prod ≢ start_prod g
      → HasAfterDot g (IsHeld g goes) s (Nonterminal (rule_of g y.prod))
  held_with_rule s y (Starts z is) fresh listed = absurd (listed (ap (λ (x : ItemOf). x.prod) is))
  held_with_rule s y (Closes r x z h adds) fresh listed = (
    x,
    h,
    subst (λ (q : ℕ). slice_get (symbols_of g x.prod) x.dot ≡ Some (Nonterminal q)) (sym adds.of_rule)
        (head_after (symbols_of g x.prod) x.dot (Nonterminal adds.rule) adds.rest adds.before),
  )
  held_with_rule s y (Steps r n X x go h at) fresh listed = absurd (omega (arith, fresh))

  module _ (len : ℕ) (sets : ℕ → ItemOf → Type 0) (merged : AreMerged g len sets goes) where
    -- only the len states hold items
    pub held_within : (s : ℕ) (x : ItemOf) → IsHeld g goes s x → s < len
    held_within s x (Starts y is) = merged.start
    held_within s x (Closes r y z h adds) = held_within r y h
    held_within s x (Steps r n X y go h at) = (merged.step r X n (held_within r y h) go).within

    -- in state 0, all dots are at the start
    pub held_fresh : (s : ℕ) (x : ItemOf) → IsHeld g goes s x → s ≡ 0 → x.dot ≡ 0
    held_fresh s x (Starts y is) first = ap (λ (z : ItemOf). z.dot) is
    held_fresh s x (Closes r y z h adds) first = adds.fresh
    held_fresh s x (Steps r n X y go h at) first = absurd ((merged.step r X n (held_within r y h) go).never_back first)
