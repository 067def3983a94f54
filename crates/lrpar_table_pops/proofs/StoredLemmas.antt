-- The exits of states, as they are added to.
use Rattle.std.proofs.Common.{◌≡◌, ◌<◌, ◌+◌, ◌⊎◌, ◌∙◌, inl, inr, refl, sym, ap, subst, arith, ℕ, zero, suc, List, [], ◌∷◌, ◌++◌, Global, Vec, get_or, length, slice_index_or}
use Rattle.std.proofs.Math.ListN.{set}
use Rattle.std.proofs.lemmas.List.Sums.{sum_by-set}
use Rattle.lrpar_grammar.specs.Grammar.{Grammar}
use Rattle.lrpar_table_rows.specs.Table.{Table}
use Rattle.lrpar_table_pops.specs.Exits.{AddsOnly, HasExit, HasNoExit}
use Rattle.lrpar_table_pops.specs.Pops.{Control, Pops, Reading}
use Rattle.lrpar_table_pops.specs.StoredPops.{AddsOnlyAt, ArePopsOf, HasNoExits, HaveNoExits, any_of, at_of, room_at, room_of}
use Rattle.lrpar_table_pops.specs.StoredSteps.{AddsExitsAt, AddsExitsOf}
use Rattle.lrpar_table_pops.specs.declared.exits.Exit.{Exit}
use Rattle.lrpar_table_pops.specs.declared.exits.Exits.{Exits}
use Rattle.lrpar_table_pops.specs.declared.pops.StateExits.{StateExits}

-- an element of lists of exits after one was replaced
pub lists_set : (lists : List (List Exit)) (i : ℕ) (exits : List Exit) (u : ℕ) (r : Control) → HasExit (slice_index_or (set lists i exits) u []) r
    → HasExit (slice_index_or lists u []) r ⊎ ((u ≡ i) × HasExit exits r)
lists_set [] i exits u r h = inl h
lists_set (x ∷ lists) zero exits zero r h = inr (refl, h)
lists_set (x ∷ lists) zero exits (suc u) r h = inl h
lists_set (x ∷ lists) (suc i) exits zero r h = inl h
lists_set (x ∷ lists) (suc i) exits (suc u) r h =
    elim (lists_set lists i exits u r h) as (λ _. HasExit (slice_index_or lists u []) r ⊎ ((suc u ≡ suc i) × HasExit exits r)) [
      | inl was ↦ inl was
      | inr new ↦ inr (ap suc new.0, new.1)
    ]

list_there : (lists : List (List Exit)) (t : ℕ) (old : List Exit) → t < length lists → old ≡ get_or lists t old → slice_index_or lists t [] ≡ old
list_there [] t old low there = absurd (omega (arith, low))
list_there (x ∷ lists) zero old low there = sym there
list_there (x ∷ lists) (suc t) old low there = list_there lists t old (omega (arith, low)) there

pub adds_at : (lists : List (List Exit)) (t : ℕ) (old new : List Exit) (P : Control → Type 0) → t < length lists → old ≡ get_or lists t old → AddsOnly P old new
    → AddsOnlyAt t P lists (set lists t new)
adds_at lists t old new P low there adds u r h =
    elim (lists_set lists t new u r h) as (λ _. HasExit (slice_index_or lists u []) r ⊎ ((u ≡ t) × P r)) [
      | inl was ↦ inl was
      | inr here ↦
          elim (adds r here.1) as (λ _. HasExit (slice_index_or lists u []) r ⊎ ((u ≡ t) × P r)) [
            | inl was ↦ inl (subst (λ (l : List Exit). HasExit l r) (sym (ap (λ (n : ℕ). slice_index_or lists n []) here.0 ∙ list_there lists t old low there)) was)
            | inr more ↦ inr (here.0, more)
          ]
    ]

-- the exits of states after those of one were replaced
any_set : (states : List StateExits) (s : ℕ) (new : StateExits) (u : ℕ) (r : Control) → HasExit (any_of (set states s new) u) r
    → HasExit (any_of states u) r ⊎ ((u ≡ s) × HasExit new.any r)
any_set [] s new u r h = inl h
any_set (x ∷ states) zero new zero r h = inr (refl, h)
any_set (x ∷ states) zero new (suc u) r h = inl h
any_set (x ∷ states) (suc s) new zero r h = inl h
any_set (x ∷ states) (suc s) new (suc u) r h =
    elim (any_set states s new u r h) as (λ _. HasExit (any_of states u) r ⊎ ((suc u ≡ suc s) × HasExit new.any r)) [
      | inl was ↦ inl was
      | inr more ↦ inr (ap suc more.0, more.1)
    ]

at_set : (states : List StateExits) (s : ℕ) (new : StateExits) (u t : ℕ) (r : Control) → HasExit (at_of (set states s new) u t) r
    → HasExit (at_of states u t) r ⊎ ((u ≡ s) × HasExit (slice_index_or new.at.items t []) r)
at_set [] s new u t r h = inl h
at_set (x ∷ states) zero new zero t r h = inr (refl, h)
at_set (x ∷ states) zero new (suc u) t r h = inl h
at_set (x ∷ states) (suc s) new zero t r h = inl h
at_set (x ∷ states) (suc s) new (suc u) t r h =
    elim (at_set states s new u t r h) as (λ _. HasExit (at_of states u t) r ⊎ ((suc u ≡ suc s) × HasExit (slice_index_or new.at.items t []) r)) [
      | inl was ↦ inl was
      | inr more ↦ inr (ap suc more.0, more.1)
    ]

-- the exits of the state that was there
any_there : (states : List StateExits) (s : ℕ) (old : StateExits) → s < length states → old ≡ get_or states s old → any_of states s ≡ old.any
any_there [] s old low there = absurd (omega (arith, low))
any_there (x ∷ states) zero old low there = ap (λ (e : StateExits). e.any) (sym there)
any_there (x ∷ states) (suc s) old low there = any_there states s old (omega (arith, low)) there

at_there : (states : List StateExits) (s t : ℕ) (old : StateExits) → s < length states → old ≡ get_or states s old
    → at_of states s t ≡ slice_index_or old.at.items t []
at_there [] s t old low there = absurd (omega (arith, low))
at_there (x ∷ states) zero t old low there = ap (λ (e : StateExits). slice_index_or e.at.items t []) (sym there)
at_there (x ∷ states) (suc s) t old low there = at_there states s t old (omega (arith, low)) there

module _ (g : Grammar) (table : Table) (states : List StateExits) (s : ℕ) (old new : StateExits) (low : s < length states)
    (there : old ≡ get_or states s old) (are : ArePopsOf g table states) where
  -- a state was given more exits at any lookahead
  pub any_stays : (exits : List Exit) → AddsOnly (HasExit exits) old.any new.any → new.at ≡ old.at
      → ((r : Control) → HasExit exits r → (t : ℕ) × Pops g table (Reading t) s r) → ArePopsOf g table (set states s new)
  any_stays exits adds same right = record {
    by_any = λ u r h.
        elim (any_set states s new u r h) as (λ _. (t : ℕ) × Pops g table (Reading t) u r) [
          | inl was ↦ are.by_any u r was
          | inr here ↦
              let at_s : (t : ℕ) × Pops g table (Reading t) s r =
              elim (adds r here.1) as (λ _. (t : ℕ) × Pops g table (Reading t) s r) [
                | inl was ↦ are.by_any s r (subst (λ (l : List Exit). HasExit l r) (sym (any_there states s old low there)) was)
                | inr more ↦ right r more
              ] in
              subst (λ (n : ℕ). (t : ℕ) × Pops g table (Reading t) n r) (sym here.0) at_s
        ];
    by_token = λ u t r h.
        elim (at_set states s new u t r h) as (λ _. Pops g table (Reading t) u r) [
          | inl was ↦ are.by_token u t r was
          | inr here ↦
              let before : HasExit (slice_index_or old.at.items t []) r = subst (λ (v : Vec Exits Global). HasExit (slice_index_or v.items t []) r) same here.1 in
              subst (λ (n : ℕ). Pops g table (Reading t) n r) (sym here.0)
              (are.by_token s t r (subst (λ (l : List Exit). HasExit l r) (sym (at_there states s t old low there)) before))
        ];
  }

  -- a state was given more exits at one token
  pub at_stays : (token : ℕ) (exits : List Exit) → AddsOnlyAt token (HasExit exits) old.at.items new.at.items → new.any ≡ old.any
      → ((r : Control) → HasExit exits r → Pops g table (Reading token) s r) → ArePopsOf g table (set states s new)
  at_stays token exits adds same right = record {
    by_any = λ u r h.
        elim (any_set states s new u r h) as (λ _. (t : ℕ) × Pops g table (Reading t) u r) [
          | inl was ↦ are.by_any u r was
          | inr here ↦
              let before : HasExit old.any r = subst (λ (l : List Exit). HasExit l r) same here.1 in
              subst (λ (n : ℕ). (t : ℕ) × Pops g table (Reading t) n r) (sym here.0)
              (are.by_any s r (subst (λ (l : List Exit). HasExit l r) (sym (any_there states s old low there)) before))
        ];
    by_token = λ u t r h.
        elim (at_set states s new u t r h) as (λ _. Pops g table (Reading t) u r) [
          | inl was ↦ are.by_token u t r was
          | inr here ↦
              let at_s : Pops g table (Reading t) s r =
              elim (adds t r here.1) as (λ _. Pops g table (Reading t) s r) [
                | inl was ↦ are.by_token s t r (subst (λ (l : List Exit). HasExit l r) (sym (at_there states s t old low there)) was)
                | inr more ↦ subst (λ (n : ℕ). Pops g table (Reading n) s r) (sym more.0) (right r more.1)
              ] in
              subst (λ (n : ℕ). Pops g table (Reading t) n r) (sym here.0) at_s
        ];
  }

-- room after one state was replaced
pub states_room : (states : List StateExits) (s : ℕ) (old new : StateExits) → s < length states → old ≡ get_or states s old
    → room_of (set states s new) + room_at old ≡ room_of states + room_at new
states_room states s old new low there =
    let sums = sum_by-set room_at states s new old low in
    let was : room_at (get_or states s old) ≡ room_at old = ap room_at (sym there) in
    omega (arith, sums, was)

-- the same in the words of the code
pub any_added : (states now : List StateExits) (s : ℕ) (old new : StateExits) (exits : List Exit) → states ≡ now → s < length states → old ≡ get_or states s old
    → AddsOnly (HasExit exits) old.any new.any → new.at ≡ old.at → AddsExitsOf s exits now (set states s new)
any_added states now s old new exits same low there adds kept g table right are =
    any_stays g table states s old new low there (subst (ArePopsOf g table) (sym same) are) exits adds kept right

pub at_added : (states now : List StateExits) (s : ℕ) (old new : StateExits) (token : ℕ) (exits : List Exit) → states ≡ now → s < length states
    → old ≡ get_or states s old → AddsOnlyAt token (HasExit exits) old.at.items new.at.items → new.any ≡ old.any
    → AddsExitsAt s token exits now (set states s new)
at_added states now s old new token exits same low there adds kept g table right are =
    at_stays g table states s old new low there (subst (ArePopsOf g table) (sym same) are) token exits adds kept right

-- one list more without exits
pub no_exits_pushed : (lists : List (List Exit)) (exits : List Exit) → HaveNoExits lists → HasNoExit exits → HaveNoExits (lists ++ exits ∷ [])
no_exits_pushed [] exits none empty zero = empty
no_exits_pushed [] exits none empty (suc t) = λ r h. absurd (omega (arith, h.1.1))
no_exits_pushed (x ∷ lists) exits none empty zero = none zero
no_exits_pushed (x ∷ lists) exits none empty (suc t) = no_exits_pushed lists exits (λ u. none (suc u)) empty t

-- one state more without exits
any_pushed : (states : List StateExits) (new : StateExits) (s : ℕ) (r : Control) → HasExit (any_of (states ++ new ∷ []) s) r
    → HasExit (any_of states s) r ⊎ HasExit new.any r
any_pushed [] new zero r h = inr h
any_pushed [] new (suc s) r h = inl h
any_pushed (x ∷ states) new zero r h = inl h
any_pushed (x ∷ states) new (suc s) r h = any_pushed states new s r h

at_pushed : (states : List StateExits) (new : StateExits) (s t : ℕ) (r : Control) → HasExit (at_of (states ++ new ∷ []) s t) r
    → HasExit (at_of states s t) r ⊎ HasExit (slice_index_or new.at.items t []) r
at_pushed [] new zero t r h = inr h
at_pushed [] new (suc s) t r h = inl h
at_pushed (x ∷ states) new zero t r h = inl h
at_pushed (x ∷ states) new (suc s) t r h = at_pushed states new s t r h

pub pops_pushed : (g : Grammar) (table : Table) (states : List StateExits) (new : StateExits) → ArePopsOf g table states → HasNoExits new
    → ArePopsOf g table (states ++ new ∷ [])
pops_pushed g table states new are none = record {
  by_any = λ s r h.
      elim (any_pushed states new s r h) as (λ _. (t : ℕ) × Pops g table (Reading t) s r) [ inl was ↦ are.by_any s r was | inr more ↦ absurd (none.0 r more) ];
  by_token = λ s t r h.
      elim (at_pushed states new s t r h) as (λ _. Pops g table (Reading t) s r) [ inl was ↦ are.by_token s t r was | inr more ↦ absurd (none.1 t r more) ];
}
