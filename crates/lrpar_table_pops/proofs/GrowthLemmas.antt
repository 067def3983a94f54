-- Exits, as they grow.
use Rattle.std.proofs.Common.{◌≡◌, ◌<◌, ◌≤◌, ◌+◌, ◌⊎◌, ◌∙◌, inl, inr, suc, zero, ◌∷◌, [], refl, sym, ap, subst, arith, add-one, ℕ, Bool, List, Some, get_or, length, slice_get, take}
use Rattle.std.proofs.Math.ListN.{set}
use Rattle.std.specs.Prelude.{Contains, IsTrue}
use Rattle.std.proofs.lemmas.Bool.{cases_eq, cases_lt}
use Rattle.std.proofs.lemmas.Grind.{get_or-set_at}
use Rattle.std.proofs.lemmas.Option.{get_or_from_slice_get, same_Some, slice_get-get_or, slice_get_within}
use Rattle.std.proofs.lemmas.List.{get_or-set_other, length-set, take_all}
use Rattle.lrpar_grammar.specs.Tokens.{has}
use Rattle.lrpar_table_pops.specs.Growth.{AddsAll, AreLookaheadsOf, GrowsBy, HasLookahead, HasWay, IsFirstOf, KeepsWays, SomeHasLookahead}
use Rattle.lrpar_table_pops.specs.declared.exits.Exit.{Exit}
use Rattle.lrpar_table_pops.specs.declared.exits.Way.{Way}
use Rattle.lrpar_table_pops.proofs.ExitLemmas.{before_more, contains_set}

-- an element before one was replaced is that one, or is kept
pub contains_kept : {X : Type 0} (xs : List X) (i : ℕ) (old y z : X) → i < length xs → old ≡ get_or xs i old → Contains xs z
    → (z ≡ old) ⊎ Contains (set xs i y) z
contains_kept {X} xs i old y z low there is_in =
    elim (cases_eq is_in.0 i) as (λ _. (z ≡ old) ⊎ Contains (set xs i y) z) [
      | inl here ↦
          let at : get_or xs is_in.0 z ≡ z = is_in.2 in
          let same : get_or xs i z ≡ get_or xs i old = within xs i low in
          inl (sym at ∙ ap (λ (k : ℕ). get_or xs k z) here ∙ same ∙ sym there)
      | inr other ↦
          let long = length-set xs i y in let under = is_in.1 in
          inr (is_in.0, omega (arith, long, under), get_or-set_other xs i is_in.0 y z other ∙ is_in.2)
    ]
  where
    within : (l : List X) (k : ℕ) → k < length l → get_or l k z ≡ get_or l k old
    within [] k less = absurd (omega (arith, less))
    within (x ∷ l) zero less = refl
    within (x ∷ l) (suc k) less = within l k (omega (arith, less))

pub contains_new : {X : Type 0} (xs : List X) (i : ℕ) (y : X) → i < length xs → Contains (set xs i y) y
contains_new xs i y low =
    let long = length-set xs i y in (i, omega (arith, long, low), get_or-set_at xs i i y y refl low)

-- growth in steps
pub grows_none : (Q : Way → ℕ → Type 0) (exits : List Exit) → ((way : Way) (t : ℕ) → Q way t → HasWay exits way → HasLookahead exits way t) → GrowsBy Q exits exits
grows_none Q exits already = record {
  ways = λ way h. h;
  rooms = λ n h. h;
  kept = λ way t h. h;
  more = λ way t n q h room low. already way t q h;
}

pub grows_then : (P Q R : Way → ℕ → Type 0) (first now next : List Exit) → ((way : Way) (t : ℕ) → R way t → P way t ⊎ Q way t) → GrowsBy P first now
    → GrowsBy Q now next → GrowsBy R first next
grows_then P Q R first now next which one two = record {
  ways = λ way h. two.ways way (one.ways way h);
  rooms = λ n h. two.rooms n (one.rooms n h);
  kept = λ way t h. two.kept way t (one.kept way t h);
  more = λ way t n r h room low.
      elim (which way t r) as (λ _. HasLookahead next way t) [
        | inl p ↦ two.kept way t (one.more way t n p h room low)
        | inr q ↦ two.more way t n q (one.ways way h) (one.rooms n room) low
      ];
}

-- there is one first exit a way
first_same : (exits : List Exit) (way : Way) (i j : ℕ) (a b : Exit) → slice_get exits i ≡ Some a → slice_get exits j ≡ Some b → a.way ≡ way → b.way ≡ way
    → ¬ (HasWay (take i exits) way) → ¬ (HasWay (take j exits) way) → i ≡ j
first_same exits way i j a b at_i at_j way_a way_b none_i none_j =
    elim (cases_lt i j) as (λ _. i ≡ j) [
      | inl less ↦ absurd (none_j (a, contains_before exits i j a less at_i, way_a))
      | inr past ↦
          elim (cases_lt j i) as (λ _. i ≡ j) [
            | inl less ↦ absurd (none_i (b, contains_before exits j i b less at_j, way_b))
            | inr back ↦ omega (arith, past, back)
          ]
    ]
  where
    contains_before : (l : List Exit) (k n : ℕ) (e : Exit) → k < n → slice_get l k ≡ Some e → Contains (take n l) e
    contains_before [] k n e less at = absurd (let none : ⊥ = cc in none)
    contains_before (x ∷ l) k zero e less at = absurd (omega (arith, less))
    contains_before (x ∷ l) zero (suc n) e less at = let first : x ≡ e = cc in (0, omega arith, first)
    contains_before (x ∷ l) (suc k) (suc n) e less at =
        let more = contains_before l k n e (omega (arith, less)) at in let under = more.1 in (suc more.0, omega (arith, under), more.2)

-- the elements of a list after one was replaced
set_at : (xs : List Exit) (i k : ℕ) (y z : Exit) → slice_get xs k ≡ Some z → (k ≡ i → slice_get (set xs i y) k ≡ Some y) × (¬ (k ≡ i) → slice_get (set xs i y) k ≡ Some z)
set_at [] i k y z is = absurd (let none : ⊥ = cc in none)
set_at (x ∷ xs) zero zero y z is = (λ same. refl, λ other. absurd (other refl))
set_at (x ∷ xs) zero (suc k) y z is = (λ same. absurd (let no : suc k ≡ 0 = same in omega (arith, no)), λ other. is)
set_at (x ∷ xs) (suc i) zero y z is = (λ same. absurd (let no : 0 ≡ suc i = same in omega (arith, no)), λ other. is)
set_at (x ∷ xs) (suc i) (suc k) y z is =
    let on = set_at xs i k y z is in (λ same. on.0 (omega (arith, same)), λ other. on.1 (λ same. other (ap suc same)))

-- the ways before a place stay
ways_set : (xs : List Exit) (i n : ℕ) (y : Exit) (way : Way) → (old : Exit) → slice_get xs i ≡ Some old → y.way ≡ old.way → HasWay (take n (set xs i y)) way
    → HasWay (take n xs) way
ways_set [] i n y way old at same h = absurd (let none : ⊥ = cc in none)
ways_set (x ∷ xs) i zero y way old at same h = absurd (let low = h.1.1 in omega (arith, low))
ways_set (x ∷ xs) zero (suc n) y way old at same (exit, (zero, low, is), is_way) =
    (x, (0, omega arith, refl), let first : x ≡ old = cc in ap (λ (e : Exit). e.way) first ∙ sym same ∙ ap (λ (e : Exit). e.way) is ∙ is_way)
ways_set (x ∷ xs) zero (suc n) y way old at same (exit, (suc k, low, is), is_way) = (exit, (suc k, low, is), is_way)
ways_set (x ∷ xs) (suc i) (suc n) y way old at same (exit, (zero, low, is), is_way) = (x, (0, omega arith, refl), ap (λ (e : Exit). e.way) is ∙ is_way)
ways_set (x ∷ xs) (suc i) (suc n) y way old at same (exit, (suc k, low, is), is_way) =
    let more = ways_set xs i n y way old at same (exit, (k, omega (arith, low), is), is_way) in
    let under = more.1.1 in (more.0, (suc more.1.0, omega (arith, under), more.1.2), more.2)

-- one exit was given more lookaheads, the first of its way
module _ (exits : List Exit) (place : ℕ) (old : Exit) (there : slice_get exits place ≡ Some old) (first : ¬ (HasWay (take place exits) old.way)) where
  low : place < length exits
  low = slice_get_within exits place old there

  now_there : old ≡ get_or exits place old
  now_there = sym (get_or_from_slice_get exits place old old there)

  pub replaced_grows : (P : ℕ → Type 0) (Q : Way → ℕ → Type 0) (tokens : List Bool) → AddsAll P old.tokens tokens
      → ((way : Way) (t : ℕ) → Q way t → (way ≡ old.way) × P t) → GrowsBy Q exits (set exits place (record { way = old.way; tokens = tokens }))
  replaced_grows P Q tokens adds only =
      let new : Exit = record { way = old.way; tokens = tokens } in
      let here : Contains (set exits place new) new = contains_new exits place new low in
      let at_new : slice_get (set exits place new) place ≡ Some new = (set_at exits place place new old there).0 refl in
      let still : (way : Way) (n : ℕ) → ¬ (HasWay (take n exits) way) → ¬ (HasWay (take n (set exits place new)) way) =
      λ way n none h. none (ways_set exits place n new way old there refl h) in
      record {
        ways = λ way h.
            elim (contains_kept exits place old new h.0 low now_there h.1) as (λ _. HasWay (set exits place new) way) [
              | inl is ↦ (new, here, ap (λ (e : Exit). e.way) (sym is) ∙ h.2)
              | inr was ↦ (h.0, was, h.2)
            ];
        rooms = λ n room exit h.
            elim (contains_set exits place new exit h) as (λ _. length exit.tokens ≡ n) [
              | inl is ↦ ap (λ (e : Exit). length e.tokens) is ∙ adds.room ∙ room old (place, low, sym now_there)
              | inr was ↦ room exit was
            ];
        kept = λ way t h.
            elim (cases_eq h.0 place) as (λ _. HasLookahead (set exits place new) way t) [
              | inl same ↦
                  let is : h.1 ≡ old = same_Some h.1 old (sym h.2 ∙ ap (slice_get exits) same ∙ there) in
                  let has_it : IsTrue (has old.tokens t) = subst (λ (e : Exit). IsTrue (has e.tokens t)) is h.5 in
                  (place, new, at_new, ap (λ (e : Exit). e.way) (sym is) ∙ h.3, still way place (subst (λ (k : ℕ). ¬ (HasWay (take k exits) way)) same h.4), adds.kept t has_it)
              | inr other ↦ (h.0, h.1, (set_at exits place h.0 new h.1 h.2).1 other, h.3, still way h.0 h.4, h.5)
            ];
        more = λ way t n q h room less.
            let both = only way t q in
            let long = room old (place, low, sym now_there) in
            let none : ¬ (HasWay (take place exits) way) = subst (λ (w : Way). ¬ (HasWay (take place exits) w)) (sym both.0) first in
            (place, new, at_new, sym both.0, still way place none, adds.more t both.1 (omega (arith, long, less)));
      }

-- the exit that was found in a list
pub found_grows : (exits now : List Exit) (place : ℕ) (way : Way) (old : Exit) → now ≡ exits → IsFirstOf now way place → old ≡ get_or exits place old
    → (P : ℕ → Type 0) (tokens : List Bool) → AddsAll P old.tokens tokens
    → GrowsBy (λ w t. (w ≡ way) × P t) now (set exits place (record { way = old.way; tokens = tokens }))
found_grows exits now place way old is found there P tokens adds =
    let at : slice_get exits place ≡ Some found.0.0 = subst (λ (l : List Exit). slice_get l place ≡ Some found.0.0) is found.0.1 in
    let same : old ≡ found.0.0 = there ∙ get_or_from_slice_get exits place found.0.0 old at in
    let at_old : slice_get exits place ≡ Some old = at ∙ ap Some (sym same) in
    let this_way : old.way ≡ way = ap (λ (e : Exit). e.way) same ∙ found.0.2 in
    let none : ¬ (HasWay (take place exits) old.way) = λ h. found.1 (subst (λ (l : List Exit). HasWay (take place l) way) (sym is) (subst (HasWay (take place exits)) this_way h)) in
    subst (λ (l : List Exit). GrowsBy (λ w t. (w ≡ way) × P t) l (set exits place (record { way = old.way; tokens = tokens }))) (sym is)
    (replaced_grows exits place old at_old none P (λ w t. (w ≡ way) × P t) tokens adds (λ w t q. (q.0 ∙ sym this_way, q.1)))

-- without the way
pub absent_grows : (exits : List Exit) (way : Way) (P : ℕ → Type 0) → ¬ (HasWay exits way) → GrowsBy (λ w t. (w ≡ way) × P t) exits exits
absent_grows exits way P absent = grows_none (λ w t. (w ≡ way) × P t) exits (λ w t q h. absurd (absent (subst (HasWay exits) q.0 h)))

-- the others, one after another
pub grows_more : (others : List Exit) (place : ℕ) (other : Exit) (first now next : List Exit) → slice_get others place ≡ Some other
    → GrowsBy (SomeHasLookahead (take place others)) first now → GrowsBy (λ w t. (w ≡ other.way) × IsTrue (has other.tokens t)) now next
    → GrowsBy (SomeHasLookahead (take (place + 1) others)) first next
grows_more others place other first now next there one two =
    grows_then (SomeHasLookahead (take place others)) (λ w t. (w ≡ other.way) × IsTrue (has other.tokens t)) (SomeHasLookahead (take (place + 1) others)) first now next
    (λ way t h.
    let seen : Contains (take (suc place) others) h.0 = rw (← add-one) h.1 in
    elim (before_more others place other h.0 there seen) as (λ _. SomeHasLookahead (take place others) way t ⊎ ((way ≡ other.way) × IsTrue (has other.tokens t))) [
      | inl was ↦ inl (h.0, was, h.2, h.3)
      | inr is ↦
          let leaves : (other.way ≡ way) × IsTrue (has other.tokens t) = subst (λ (e : Exit). (e.way ≡ way) × IsTrue (has e.tokens t)) is (h.2, h.3) in
          inr (sym leaves.0, leaves.1)
    ]) one two

-- no exit before the place is this way
abbrev pub AreOtherWays : List Exit → Way → ℕ → Type 0
AreOtherWays exits way place = ¬ (HasWay (take place exits) way)

pub other_ways_more : (exits : List Exit) (way : Way) (place : ℕ) (exit : Exit) → slice_get exits place ≡ Some exit → ¬ (exit.way ≡ way)
    → AreOtherWays exits way place → AreOtherWays exits way (place + 1)
other_ways_more exits way place exit there not before h =
    let seen : Contains (take (suc place) exits) h.0 = rw (← add-one) h.1 in
    elim (before_more exits place exit h.0 there seen) as (λ _. ⊥) [
      | inl was ↦ before (h.0, was, h.2)
      | inr is ↦ not (ap (λ (e : Exit). e.way) (sym is) ∙ h.2)
    ]

pub other_ways_all : (exits : List Exit) (way : Way) (place : ℕ) → length exits ≤ place → AreOtherWays exits way place → ¬ (HasWay exits way)
other_ways_all exits way place all none = subst (λ (l : List Exit). ¬ (HasWay l way)) (take_all place exits all) none

pub other_ways_none : (exits : List Exit) (way : Way) → AreOtherWays exits way 0
other_ways_none exits way h = let low = h.1.1 in omega (arith, low)

-- a lookahead is one of some exit
pub some_has : (exits : List Exit) (way : Way) (t : ℕ) → HasLookahead exits way t → SomeHasLookahead exits way t
some_has exits way t h = (h.1, (h.0, slice_get_within exits h.0 h.1 h.2, get_or_from_slice_get exits h.0 h.1 h.1 h.2), h.3, h.5)

-- the lookaheads of the first exit
pub first_lookaheads : (exits : List Exit) (way : Way) (place : ℕ) (exit : Exit) → slice_get exits place ≡ Some exit → exit.way ≡ way
    → ¬ (HasWay (take place exits) way) → AreLookaheadsOf exits way exit.tokens
first_lookaheads exits way place exit at is none t h =
    let same = first_same exits way h.0 place h.1 exit h.2 at h.3 is h.4 none in
    let one : h.1 ≡ exit = same_Some h.1 exit (sym h.2 ∙ ap (slice_get exits) same ∙ at) in
    subst (λ (e : Exit). IsTrue (has e.tokens t)) one h.5

-- an element that was read is at its place
pub read_at : {X : Type 0} (xs now : List X) (i : ℕ) (x : X) → xs ≡ now → i < length xs → x ≡ get_or xs i x → slice_get now i ≡ Some x
read_at {X} xs now i x same low is = subst (λ (l : List X). slice_get l i ≡ Some x) same (slice_get-get_or xs i x low ∙ ap Some (sym is))

-- none of no exits has a lookahead
pub none_has : (exits : List Exit) (way : Way) (t : ℕ) → ¬ (SomeHasLookahead (take 0 exits) way t)
none_has exits way t h = let low = h.1.1 in omega (arith, low)

-- the lookaheads of the exits before a place, and of the one there
pub some_more : (exits : List Exit) (place : ℕ) (exit : Exit) (way : Way) (t : ℕ) → slice_get exits place ≡ Some exit → SomeHasLookahead (take (place + 1) exits) way t
    → SomeHasLookahead (take place exits) way t ⊎ ((exit.way ≡ way) × IsTrue (has exit.tokens t))
some_more exits place exit way t there h =
    let seen : Contains (take (suc place) exits) h.0 = rw (← add-one) h.1 in
    elim (before_more exits place exit h.0 there seen) as (λ _. SomeHasLookahead (take place exits) way t ⊎ ((exit.way ≡ way) × IsTrue (has exit.tokens t))) [
      | inl was ↦ inl (h.0, was, h.2, h.3)
      | inr is ↦ inr (subst (λ (e : Exit). (e.way ≡ way) × IsTrue (has e.tokens t)) is (h.2, h.3))
    ]

-- the lookaheads of one exit are others, with as much room
pub places_set : (exits : List Exit) (place : ℕ) (old : Exit) (tokens : List Bool) → place < length exits → old ≡ get_or exits place old
    → length tokens ≡ length old.tokens → KeepsWays exits (set exits place (record { way = old.way; tokens = tokens }))
places_set exits place old tokens low there long =
    let new : Exit = record { way = old.way; tokens = tokens } in
    record {
      ways = λ way h.
          elim (contains_kept exits place old new h.0 low there h.1) as (λ _. HasWay (set exits place new) way) [
            | inl is ↦ (new, contains_new exits place new low, ap (λ (e : Exit). e.way) (sym is) ∙ h.2)
            | inr was ↦ (h.0, was, h.2)
          ];
      rooms = λ n room exit h.
          elim (contains_set exits place new exit h) as (λ _. length exit.tokens ≡ n) [
            | inl is ↦ ap (λ (e : Exit). length e.tokens) is ∙ long ∙ room old (place, low, sym there)
            | inr was ↦ room exit was
          ];
    }

pub places_same : (exits : List Exit) → KeepsWays exits exits
places_same exits = record { ways = λ way h. h; rooms = λ n h. h }

pub places_then : (first now next : List Exit) → KeepsWays first now → KeepsWays now next → KeepsWays first next
places_then first now next one two = record { ways = λ way h. two.ways way (one.ways way h); rooms = λ n h. two.rooms n (one.rooms n h) }
