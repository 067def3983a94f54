-- Along each path that leads to a state of merged item sets, the canonical set has all cores of the state. So a shift of the merged set is
-- one of each of these canonical sets, and where a reduction meets it in the merged set, it does so in one of them.
use Rattle.std.proofs.Common.{◌≡◌, ◌<◌, ◌+◌, ◌++◌, refl, sym, ap, subst, arith, ℕ, List, [], ◌∷◌}
use Rattle.lrpar_grammar.specs.Grammar.{Grammar, GrammarSymbol, end_token, prod_len, start_prod, symbols_of}
use Rattle.lrpar_table_first.specs.First.{Empty, IsFirst, Rule, Token}
use Rattle.lrpar_table_rows.proofs.GraphLemmas.{state_in_range}
use Rattle.lrpar_table_rows.specs.Graph.{ItemOf, graph_len, item_at}
use Rattle.lrpar_table_items.specs.Canonical.{sets_of}
use Rattle.lrpar_table_items.specs.ItemSets.{Adds, IsReachedBy, Own}
use Rattle.lrpar_table_merge.specs.Held.{Closes, IsHeld, Starts, Steps}
use Rattle.lrpar_table_merge.specs.Merged.{Along, AreMerged, LeadsAlong}
use Rattle.lrpar_table_merge.specs.MergedByLaws.{MergedShiftConflictsAreCanonical}
use Rattle.lrpar_table_merge.proofs.MergedHeldLemmas.{added_to, held_fresh, held_within}

-- if First of some symbols has a token, it has one for each token that follows them
first_for : (g : Grammar) (a b : ℕ) (w : List GrammarSymbol) (t : ℕ) → IsFirst g a w t → (u : ℕ) × IsFirst g b w u
first_for g a b w t Empty = (b, Empty)
first_for g a b w t (Token u v) = (u, Token u v)
first_for g a b w t (Rule p r v u known of_rule h) =
    let from = first_for g a b (symbols_of g p ++ v) u h in (from.0, Rule p r v from.0 known of_rule from.1)

-- what an item adds, an item of the same core adds, with some token
adds_for : (g : Grammar) (x y : ItemOf) (b : ℕ) → Adds g x y → (u : ℕ) × Adds g (item_at x.prod x.dot b) (item_at y.prod y.dot u)
adds_for g x y b adds =
    let first = first_for g x.token b adds.rest y.token adds.first in (
      first.0,
      record {
        rule = adds.rule;
        rest = adds.rest;
        before = adds.before;
        known = adds.known;
        of_rule = adds.of_rule;
        fresh = adds.fresh;
        first = first.1;
      },
    )

module _ (g : Grammar) (goes : ℕ → GrammarSymbol → ℕ → Type 0) where
  -- an item that a state holds is in the set that gotos reach by a path to the state
  held_along : (s : ℕ) (x : ItemOf) → IsHeld g goes s x → (path : List GrammarSymbol) × LeadsAlong goes path s × IsReachedBy g path x
  held_along s x (Starts y is) = ([], refl, Own y is)
  held_along s x (Closes r y z h adds) = let from = held_along r y h in (from.0, from.1, added_to g from.0 y z from.2 adds)
  held_along s x (Steps r n X y go h at) =
      let from = held_along r y h in
      let z = item_at y.prod (y.dot + 1) y.token in (X ∷ from.0, (r, from.1, go), Own z (y, from.2, at, refl))

  -- a set that gotos reach has a core of the item
  abbrev HasCoreOf : List GrammarSymbol → ItemOf → Type 0
  HasCoreOf path x = (u : ℕ) × IsReachedBy g path (item_at x.prod x.dot u)

  -- it has the cores of a state, if it has those whose dot isn't at the start; and the start item, if the state is the first
  closed_cores : (path : List GrammarSymbol) (s : ℕ) (x : ItemOf) → IsHeld g goes s x
      → ((y : ItemOf) (k : ℕ) → IsHeld g goes s y → y.dot ≡ k + 1 → HasCoreOf path y)
      → (s ≡ 0 → IsReachedBy g path (item_at (start_prod g) 0 (end_token g))) → HasCoreOf path x
  closed_cores path s x (Starts y is) kernel start =
      subst (HasCoreOf path) (sym is) (end_token g, start refl)
  closed_cores path s x (Closes r y z h adds) kernel start =
      let from = closed_cores path r y h kernel start in
      let next = adds_for g y z from.0 adds in
      (next.0, added_to g path (item_at y.prod y.dot from.0) (item_at z.prod z.dot next.0) from.1 next.1)
  closed_cores path s x (Steps r n X y go h at) kernel start =
      kernel (item_at y.prod (y.dot + 1) y.token) y.dot (Steps r n X y go h at) refl

  module _ (len : ℕ) (sets : ℕ → ItemOf → Type 0) (merged : AreMerged g len sets goes) where
    -- a path leads to one of the states
    path_low : (path : List GrammarSymbol) (s : ℕ) → LeadsAlong goes path s → s < len
    path_low [] s along = subst (λ (n : ℕ). n < len) (sym along) merged.start
    path_low (X ∷ path) s along = (merged.step along.0 X s (path_low path along.0 along.1) along.2).within

    -- the set that gotos reach by a path has the cores of the state to which it leads
    path_cores : (path : List GrammarSymbol) (s : ℕ) → LeadsAlong goes path s → (x : ItemOf) → IsHeld g goes s x → HasCoreOf path x
    path_cores [] s along x h =
        closed_cores [] s x h
        (λ y k held moved. let fresh = held_fresh g goes len sets merged s y held along in absurd (omega (arith, fresh, moved)))
        (λ first. Own (item_at (start_prod g) 0 (end_token g)) refl)
    path_cores (X ∷ path) s along x h =
        let r = along.0 in
        let low = path_low path r along.1 in
        let step = merged.step r X s low along.2 in
        closed_cores (X ∷ path) s x h
        (λ y k held moved.
        let low_here = held_within g goes len sets merged s y held in
        let is = ap (λ (n : ℕ). item_at y.prod n y.token) moved in
        let there = subst (sets s) is ((merged.held s low_here y).1 held) in
        let from = step.cores y.prod k y.token there in
        let z = item_at y.prod k from.1.0 in
        let back = path_cores path r along.1 z ((merged.held r low z).0 from.1.1) in
        let advanced = item_at y.prod (k + 1) back.0 in
        let own : IsReachedBy g (X ∷ path) advanced = Own advanced (item_at y.prod k back.0, back.1, from.0, refl) in
        (back.0, subst (λ (n : ℕ). IsReachedBy g (X ∷ path) (item_at y.prod n back.0)) (sym moved) own))
        (λ first. absurd (step.never_back first))

pub merged_shift_conflicts_are_canonical : MergedShiftConflictsAreCanonical
merged_shift_conflicts_are_canonical g graph steps merged s t p shift reduce =
    let goes = Along steps in
    let low = state_in_range graph s p (prod_len g p) t reduce.1 in
    let by = held_along g goes s (item_at p (prod_len g p) t) ((merged.held s low (item_at p (prod_len g p) t)).0 reduce.1) in
    let x = shift.0 in
    let core = path_cores g goes (graph_len graph) (sets_of graph) merged by.0 s by.1 x ((merged.held s low x).0 shift.1) in
    (by.0, record { along = by.1; shifts = (item_at x.prod x.dot core.0, core.1, shift.2); reduces = by.2 })
