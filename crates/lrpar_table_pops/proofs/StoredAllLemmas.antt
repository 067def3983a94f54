-- The exits of states, as they are added to, when nothing is left out.
use Rattle.std.proofs.Common.{◌≡◌, ◌≢◌, ◌<◌, ◌∙◌, inl, inr, refl, sym, ap, subst, arith, ℕ, zero, suc, Bool, true, false, Global, List, [], ◌∷◌, Option, Some, None, Vec, get_or, length, slice_index_or}
use Rattle.std.proofs.Math.ListN.{set}
use Rattle.std.specs.Bool.{OnFalse}
use Rattle.std.proofs.lemmas.Bool.{cases_eq}
use Rattle.std.proofs.lemmas.Option.{same_Some}
use Rattle.lrpar_table_pops.specs.Growth.{GrowsBy, SomeHasLookahead}
use Rattle.lrpar_table_pops.specs.StoredAll.{AreSameStored, StoresAll, stored_of}
use Rattle.lrpar_table_pops.specs.declared.exits.Exit.{Exit}
use Rattle.lrpar_table_pops.specs.declared.exits.Exits.{Exits}
use Rattle.lrpar_table_pops.specs.declared.exits.Way.{Way}
use Rattle.lrpar_table_pops.specs.declared.pops.StateExits.{StateExits}
use Rattle.lrpar_table_pops.proofs.GrowthLemmas.{grows_none}

-- growth by fewer lookaheads
pub grows_by : (P Q : Way → ℕ → Type 0) (old new : List Exit) → ((way : Way) (t : ℕ) → Q way t → P way t) → GrowsBy P old new → GrowsBy Q old new
grows_by P Q old new by grows = record {
  ways = grows.ways;
  rooms = grows.rooms;
  kept = grows.kept;
  more = λ way t n q h room low. grows.more way t n (by way t q) h room low;
}

grows_same : (Q : Way → ℕ → Type 0) (old new : List Exit) → new ≡ old → ((way : Way) (t : ℕ) → ¬ (Q way t)) → GrowsBy Q old new
grows_same Q old new same none = subst (λ (l : List Exit). GrowsBy Q old l) (sym same) (grows_none Q old (λ way t q h. absurd (none way t q)))

-- one list was replaced
list_set : (lists : List (List Exit)) (i : ℕ) (new : List Exit) → i < length lists → slice_index_or (set lists i new) i [] ≡ new
list_set [] i new low = absurd (omega (arith, low))
list_set (x ∷ lists) zero new low = refl
list_set (x ∷ lists) (suc i) new low = list_set lists i new (omega (arith, low))

list_kept : (lists : List (List Exit)) (i t : ℕ) (new : List Exit) → t ≢ i → slice_index_or (set lists i new) t [] ≡ slice_index_or lists t []
list_kept [] i t new other = refl
list_kept (x ∷ lists) zero zero new other = absurd (other refl)
list_kept (x ∷ lists) zero (suc t) new other = refl
list_kept (x ∷ lists) (suc i) zero new other = refl
list_kept (x ∷ lists) (suc i) (suc t) new other = list_kept lists i t new (λ same. other (ap suc same))

list_was : (lists : List (List Exit)) (i : ℕ) (old : List Exit) → i < length lists → old ≡ get_or lists i old → slice_index_or lists i [] ≡ old
list_was [] i old low there = absurd (omega (arith, low))
list_was (x ∷ lists) zero old low there = sym there
list_was (x ∷ lists) (suc i) old low there = list_was lists i old (omega (arith, low)) there

pub lists_grow : (lists : List (List Exit)) (i : ℕ) (old new : List Exit) (Q : Way → ℕ → Type 0) → i < length lists → old ≡ get_or lists i old → GrowsBy Q old new
    → (t : ℕ) → GrowsBy (λ w u. (t ≡ i) × Q w u) (slice_index_or lists t []) (slice_index_or (set lists i new) t [])
lists_grow lists i old new Q low there grows t =
    elim (cases_eq t i) as (λ _. GrowsBy (λ w u. (t ≡ i) × Q w u) (slice_index_or lists t []) (slice_index_or (set lists i new) t [])) [
      | inl here ↦
          let was : slice_index_or lists t [] ≡ old = ap (λ (n : ℕ). slice_index_or lists n []) here ∙ list_was lists i old low there in
          let now : slice_index_or (set lists i new) t [] ≡ new = ap (λ (n : ℕ). slice_index_or (set lists i new) n []) here ∙ list_set lists i new low in
          subst (λ (l : List Exit). GrowsBy (λ w u. (t ≡ i) × Q w u) l (slice_index_or (set lists i new) t [])) (sym was)
          (subst (λ (l : List Exit). GrowsBy (λ w u. (t ≡ i) × Q w u) old l) (sym now) (grows_by Q (λ w u. (t ≡ i) × Q w u) old new (λ w u q. q.1) grows))
      | inr other ↦ grows_same (λ w u. (t ≡ i) × Q w u) (slice_index_or lists t []) (slice_index_or (set lists i new) t []) (list_kept lists i t new other)
          (λ w u q. other q.0)
    ]

-- the exits of one state, at the lookahead or at any
abbrev pub exits_at : StateExits → Option ℕ → List Exit
exits_at state (Some t) = slice_index_or state.at.items t []
exits_at state None = state.any

-- one state was replaced
state_set : (states : List StateExits) (s : ℕ) (new : StateExits) (at : Option ℕ) → s < length states → stored_of (set states s new) s at ≡ exits_at new at
state_set [] s new at low = absurd (omega (arith, low))
state_set (x ∷ states) zero new (Some t) low = refl
state_set (x ∷ states) zero new None low = refl
state_set (x ∷ states) (suc s) new (Some t) low = state_set states s new (Some t) (omega (arith, low))
state_set (x ∷ states) (suc s) new None low = state_set states s new None (omega (arith, low))

state_was : (states : List StateExits) (s : ℕ) (old : StateExits) (at : Option ℕ) → s < length states → old ≡ get_or states s old → stored_of states s at ≡ exits_at old at
state_was [] s old at low there = absurd (omega (arith, low))
state_was (x ∷ states) zero old (Some t) low there = ap (λ (e : StateExits). slice_index_or e.at.items t []) (sym there)
state_was (x ∷ states) zero old None low there = ap (λ (e : StateExits). e.any) (sym there)
state_was (x ∷ states) (suc s) old (Some t) low there = state_was states s old (Some t) (omega (arith, low)) there
state_was (x ∷ states) (suc s) old None low there = state_was states s old None (omega (arith, low)) there

state_kept : (states : List StateExits) (s u : ℕ) (new : StateExits) (at : Option ℕ) → u ≢ s → stored_of (set states s new) u at ≡ stored_of states u at
state_kept [] s u new at other = refl
state_kept (x ∷ states) zero zero new at other = absurd (other refl)
state_kept (x ∷ states) zero (suc u) new (Some t) other = refl
state_kept (x ∷ states) zero (suc u) new None other = refl
state_kept (x ∷ states) (suc s) zero new (Some t) other = refl
state_kept (x ∷ states) (suc s) zero new None other = refl
state_kept (x ∷ states) (suc s) (suc u) new (Some t) other = state_kept states s u new (Some t) (λ same. other (ap suc same))
state_kept (x ∷ states) (suc s) (suc u) new None other = state_kept states s u new None (λ same. other (ap suc same))

module _ (states now : List StateExits) (is : states ≡ now) (s : ℕ) (old new : StateExits) (low : s < length states) (there : old ≡ get_or states s old) where
  stores_here : (at : Option ℕ) (exits : List Exit)
      → ((other : Option ℕ) → GrowsBy (λ w t. (other ≡ at) × SomeHasLookahead exits w t) (exits_at old other) (exits_at new other))
      → StoresAll s at exits states (set states s new)
  stores_here at exits grows = record {
    grows = λ u other.
        let Q : Way → ℕ → Type 0 = λ w t. (u ≡ s) × (other ≡ at) × SomeHasLookahead exits w t in
        elim (cases_eq u s) as (λ _. GrowsBy Q (stored_of states u other) (stored_of (set states s new) u other)) [
          | inl here ↦
              let was : stored_of states u other ≡ exits_at old other = ap (λ (n : ℕ). stored_of states n other) here ∙ state_was states s old other low there in
              let after : stored_of (set states s new) u other ≡ exits_at new other =
              ap (λ (n : ℕ). stored_of (set states s new) n other) here ∙ state_set states s new other low in
              subst (λ (l : List Exit). GrowsBy Q l (stored_of (set states s new) u other)) (sym was)
              (subst (λ (l : List Exit). GrowsBy Q (exits_at old other) l) (sym after)
              (grows_by (λ w t. (other ≡ at) × SomeHasLookahead exits w t) Q (exits_at old other) (exits_at new other) (λ w t q. (q.1, q.2)) (grows other)))
          | inr apart ↦ grows_same Q (stored_of states u other) (stored_of (set states s new) u other) (state_kept states s u new other apart) (λ w t q. apart q.0)
        ];
    alone = λ u other apart. state_kept states s u new other apart;
  }

  same_here : ((at : Option ℕ) → exits_at new at ≡ exits_at old at) → AreSameStored states (set states s new)
  same_here same u at =
      elim (cases_eq u s) as (λ _. stored_of (set states s new) u at ≡ stored_of states u at) [
        | inl here ↦
            ap (λ (n : ℕ). stored_of (set states s new) n at) here ∙ state_set states s new at low ∙ same at ∙ sym (state_was states s old at low there)
            ∙ ap (λ (n : ℕ). stored_of states n at) (sym here)
        | inr apart ↦ state_kept states s u new at apart
      ]

  -- exits were added at any lookahead
  pub any_stores : (exits : List Exit) → GrowsBy (SomeHasLookahead exits) old.any new.any → new.at ≡ old.at → StoresAll s None exits now (set states s new)
  any_stores exits grows same =
      subst (λ (l : List StateExits). StoresAll s None exits l (set states s new)) is (stores_here None exits (by exits grows same))
    where
      by : (exits : List Exit) → GrowsBy (SomeHasLookahead exits) old.any new.any → new.at ≡ old.at
          → (other : Option ℕ) → GrowsBy (λ w t. (other ≡ None) × SomeHasLookahead exits w t) (exits_at old other) (exits_at new other)
      by exits grows same (Some u) =
          grows_same (λ w t. (Some u ≡ None) × SomeHasLookahead exits w t) (exits_at old (Some u)) (exits_at new (Some u))
          (ap (λ (v : Vec Exits Global). slice_index_or v.items u []) same) (λ w t q. let no = q.0 in let none : ⊥ = cc in none)
      by exits grows same None =
          grows_by (SomeHasLookahead exits) (λ w t. (None ≡ None) × SomeHasLookahead exits w t) old.any new.any (λ w t q. q.1) grows

  pub any_same : (b : Bool) → OnFalse b (new.any ≡ old.any) → new.at ≡ old.at → OnFalse b (AreSameStored now (set states s new))
  any_same true any same = tt
  any_same false any same = subst (λ (l : List StateExits). AreSameStored l (set states s new)) is (same_here by)
    where
      by : (at : Option ℕ) → exits_at new at ≡ exits_at old at
      by (Some u) = ap (λ (v : Vec Exits Global). slice_index_or v.items u []) same
      by None = any

  -- exits were added at one token
  pub at_stores : (token : ℕ) (exits : List Exit)
      → ((t : ℕ) → GrowsBy (λ w u. (t ≡ token) × SomeHasLookahead exits w u) (slice_index_or old.at.items t []) (slice_index_or new.at.items t []))
      → new.any ≡ old.any → StoresAll s (Some token) exits now (set states s new)
  at_stores token exits grows same =
      subst (λ (l : List StateExits). StoresAll s (Some token) exits l (set states s new)) is (stores_here (Some token) exits by)
    where
      by : (other : Option ℕ) → GrowsBy (λ w t. (other ≡ Some token) × SomeHasLookahead exits w t) (exits_at old other) (exits_at new other)
      by (Some u) =
          grows_by (λ w t. (u ≡ token) × SomeHasLookahead exits w t) (λ w t. (Some u ≡ Some token) × SomeHasLookahead exits w t) (exits_at old (Some u))
          (exits_at new (Some u)) (λ w t q. (same_Some u token q.0, q.1)) (grows u)
      by None =
          grows_same (λ w t. (None ≡ Some token) × SomeHasLookahead exits w t) (exits_at old None) (exits_at new None) same
          (λ w t q. let no = q.0 in let none : ⊥ = cc in none)

  pub at_same : (b : Bool) → OnFalse b (new.at.items ≡ old.at.items) → new.any ≡ old.any → OnFalse b (AreSameStored now (set states s new))
  at_same true at same = tt
  at_same false at same = subst (λ (l : List StateExits). AreSameStored l (set states s new)) is (same_here by)
    where
      by : (a : Option ℕ) → exits_at new a ≡ exits_at old a
      by (Some u) = ap (λ (l : List (List Exit)). slice_index_or l u []) at
      by None = same
