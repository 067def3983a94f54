-- Exits, as lookaheads are added to them.
use Rattle.std.proofs.Common.{◌≡◌, ◌<◌, ◌≤◌, ◌+◌, ◌⊎◌, ◌∙◌, inl, inr, ◌++◌, ◌∷◌, [], zero, suc, take, refl, sym, ap, subst, arith, add-one, ℕ, Bool, true, false, List, Some, get_or, length, slice_get}
use Rattle.std.proofs.Math.ListN.{set}
use Rattle.std.specs.Prelude.{Contains, IsTrue}
use Rattle.std.proofs.lemmas.Bool.{OnTrue_at, OnTrue_from, cases_eq}
use Rattle.std.specs.Bool.{OnFalse, OnTrue}
use Rattle.std.proofs.lemmas.Grind.{get_or-set_at}
use Rattle.std.proofs.lemmas.Option.{get_or_from_slice_get, slice_get_within}
use Rattle.std.proofs.lemmas.List.Elements.{Contains-append_cases}
use Rattle.std.proofs.lemmas.List.{get_or-set_other, length-set}
use Rattle.std.proofs.lemmas.List.Sums.{sum_by-set}
use Rattle.lrpar_grammar.specs.Tokens.{has, missing}
use Rattle.lrpar_table_pops.specs.Exits.{AddsOnly, HasExit, HasNoExit, HaveAllExits, AreTokensAt, IsIndexOf, LeavesIn, control_of, room_left}
use Rattle.lrpar_table_pops.specs.Sets.{AddsOnlyToken, AddsOnlyTokens}
use Rattle.lrpar_table_pops.specs.Pops.{Control}
use Rattle.lrpar_table_pops.specs.declared.exits.Way.{Way}
use Rattle.lrpar_grammar.specs.Tokens.{HaveCommon, IsEmptySet}
use Rattle.lrpar_table_pops.specs.declared.exits.Exit.{Exit}

-- an element after one was replaced is the new one, or an old one
pub contains_set : {X : Type 0} (xs : List X) (i : ℕ) (y z : X) → Contains (set xs i y) z → (z ≡ y) ⊎ Contains xs z
contains_set {X} xs i y z has =
    let low : has.0 < length xs = let at = has.1 in let same = length-set xs i y in omega (arith, at, same) in
    elim (cases_eq has.0 i) as (λ _. (z ≡ y) ⊎ Contains xs z) [
      | inl here ↦
          let within : i < length xs = omega (arith, low, here) in
          inl (sym has.2 ∙ get_or-set_at xs i has.0 y z here within)
      | inr other ↦ inr (has.0, low, sym (get_or-set_other xs i has.0 y z other) ∙ has.2)
    ]

module _ (exits : List Exit) (place : ℕ) (old : Exit) (low : place < length exits) (there : old ≡ get_or exits place old) where
  abbrev replaced : List Bool → List Exit
  replaced tokens = set exits place (record { way = old.way; tokens = tokens })

  -- an exit with more tokens adds only these
  pub replaced_adds : (P : Control → Type 0) (tokens : List Bool)
      → ((t : ℕ) → IsTrue (has tokens t) → IsTrue (has old.tokens t) ⊎ P (control_of old.way t)) → AddsOnly P exits (replaced tokens)
  replaced_adds P tokens more r h =
      let new : Exit = record { way = old.way; tokens = tokens } in
      elim (contains_set exits place new h.0 h.1) as (λ _. HasExit exits r ⊎ P r) [
        | inl is ↦
            let leaves : LeavesIn old.way tokens r = subst (λ (e : Exit). LeavesIn e.way e.tokens r) is h.2 in
            elim (more leaves.0 leaves.1) as (λ _. HasExit exits r ⊎ P r) [
              | inl was ↦ inl (old, (place, low, sym there), (leaves.0, was, leaves.2))
              | inr p ↦ inr (subst P leaves.2 p)
            ]
        | inr was ↦ inl (h.0, was, h.2)
      ]

  -- and there is less room
  pub replaced_room : (tokens : List Bool) → missing tokens < missing old.tokens → room_left (replaced tokens) < room_left exits
  replaced_room tokens fewer =
      let f : Exit → ℕ = λ exit. missing exit.tokens in
      let sums = sum_by-set f exits place (record { way = old.way; tokens = tokens }) old low in
      let was : missing (get_or exits place old).tokens ≡ missing old.tokens = ap (λ (e : Exit). missing e.tokens) (sym there) in
      omega (arith, sums, was, fewer)

-- the exit that was found in a list
module _ (exits now : List Exit) (place : ℕ) (way : Way) (old : Exit) (is : now ≡ exits) (found : IsIndexOf now way place)
    (there : old ≡ get_or exits place old) where
  at : slice_get exits place ≡ Some found.0
  at = subst (λ (l : List Exit). slice_get l place ≡ Some found.0) is found.1

  low : place < length exits
  low = slice_get_within exits place found.0 at

  this_way : old.way ≡ way
  this_way = ap (λ (e : Exit). e.way) (there ∙ get_or_from_slice_get exits place found.0 old at) ∙ found.2

  pub united_adds : (tokens new : List Bool) → AddsOnlyTokens old.tokens new tokens
      → AddsOnly (LeavesIn way tokens) now (set exits place (record { way = old.way; tokens = new }))
  united_adds tokens new adds =
      subst (λ (l : List Exit). AddsOnly (LeavesIn way tokens) l (set exits place (record { way = old.way; tokens = new }))) (sym is)
      (replaced_adds exits place old low there (LeavesIn way tokens) new (λ t has_new.
      elim (adds t has_new) as (λ _. IsTrue (has old.tokens t) ⊎ LeavesIn way tokens (control_of old.way t)) [
        | inl was ↦ inl was
        | inr given ↦ inr (t, given, ap (λ (w : Way). control_of w t) (sym this_way))
      ]))

  pub inserted_adds : (token : ℕ) (new : List Bool) → AddsOnlyToken old.tokens new token
      → AddsOnly (λ r. control_of way token ≡ r) now (set exits place (record { way = old.way; tokens = new }))
  inserted_adds token new adds =
      subst (λ (l : List Exit). AddsOnly (λ r. control_of way token ≡ r) l (set exits place (record { way = old.way; tokens = new }))) (sym is)
      (replaced_adds exits place old low there (λ r. control_of way token ≡ r) new (λ t has_new.
      elim (adds t has_new) as (λ _. IsTrue (has old.tokens t) ⊎ (control_of way token ≡ control_of old.way t)) [
        | inl was ↦ inl was
        | inr given ↦ inr (ap (control_of way) (sym given) ∙ ap (λ (w : Way). control_of w t) (sym this_way))
      ]))

  pub united_room : (new : List Bool) → missing new < missing old.tokens
      → room_left (set exits place (record { way = old.way; tokens = new })) < room_left now
  united_room new fewer =
      subst (λ (l : List Exit). room_left (set exits place (record { way = old.way; tokens = new })) < room_left l) (sym is)
      (replaced_room exits place old low there new fewer)

-- an exit without lookaheads
empty_leaves : (exit : Exit) → IsEmptySet exit.tokens → (r : Control) → ¬ (LeavesIn exit.way exit.tokens r)
empty_leaves exit empty r leaves = let no : true ≡ false = sym leaves.1 ∙ empty leaves.0 in absurd (let none : ⊥ = cc in none)

-- the first exits have no lookaheads
abbrev pub AreClearUpTo : List Exit → ℕ → Type 0
AreClearUpTo exits n = (i : ℕ) (exit : Exit) → i < n → i < length exits → get_or exits i exit ≡ exit → IsEmptySet exit.tokens

pub clear_more : (exits : List Exit) (n : ℕ) (new : Exit) → n < length exits → AreClearUpTo exits n → IsEmptySet new.tokens
    → AreClearUpTo (set exits n new) (n + 1)
clear_more exits n new low before empty i exit below within is =
    elim (cases_eq i n) as (λ _. IsEmptySet exit.tokens) [
      | inl here ↦ subst (λ (e : Exit). IsEmptySet e.tokens) (sym (get_or-set_at exits n i new exit here low) ∙ is) empty
      | inr other ↦
          let same = length-set exits n new in
          before i exit (omega (arith, below, other)) (omega (arith, within, same)) (sym (get_or-set_other exits n i new exit other) ∙ is)
    ]

pub all_clear : (exits : List Exit) (n : ℕ) → length exits ≤ n → AreClearUpTo exits n → HasNoExit exits
all_clear exits n all clear r h =
    let within = h.1.1 in
    empty_leaves h.0 (clear h.1.0 h.0 (omega (arith, all, within)) within h.1.2) r h.2

one_contains : {X : Type 0} (x y : X) → Contains (x ∷ []) y → y ≡ x
one_contains x y (zero, low, is) = sym is
one_contains x y (suc k, low, is) = absurd (omega (arith, low))

pub no_exit_more : (exits : List Exit) (exit : Exit) → HasNoExit exits → IsEmptySet exit.tokens → HasNoExit (exits ++ exit ∷ [])
no_exit_more exits exit none empty r h =
    elim (Contains-append_cases exits (exit ∷ []) h.0 h.1) as (λ _. ⊥) [
      | inl was ↦ none r (h.0, was, h.2)
      | inr new ↦ empty_leaves exit empty r (subst (λ (e : Exit). LeavesIn e.way e.tokens r) (one_contains exit h.0 new) h.2)
    ]

-- an element at a place is a member
pub member_at : {X : Type 0} (xs : List X) (i : ℕ) (x : X) → slice_get xs i ≡ Some x → Contains xs x
member_at xs i x is = (i, slice_get_within xs i x is, get_or_from_slice_get xs i x x is)

-- the members before a place, and the one there
pub before_more : {X : Type 0} (xs : List X) (i : ℕ) (x y : X) → slice_get xs i ≡ Some x → Contains (take (suc i) xs) y → Contains (take i xs) y ⊎ (y ≡ x)
before_more [] i x y is (k, low, at) = absurd (let none : ⊥ = cc in none)
before_more {X} (z ∷ xs) zero x y is (zero, low, at) = let first : z ≡ x = cc in inr (sym at ∙ first)
before_more (z ∷ xs) zero x y is (suc k, low, at) = absurd (omega (arith, low))
before_more (z ∷ xs) (suc i) x y is (zero, low, at) = inl (zero, omega arith, at)
before_more {X} (z ∷ xs) (suc i) x y is (suc k, low, at) =
    elim (before_more xs i x y is (k, omega (arith, low), at)) as (λ _. Contains (z ∷ take i xs) y ⊎ (y ≡ x)) [
      | inl was ↦ let under = was.1 in inl (suc was.0, omega (arith, under), was.2)
      | inr same ↦ inr same
    ]

-- the exits before a place, and the one there
pub covers_more : (exits others : List Exit) (place : ℕ) (other : Exit) → slice_get others place ≡ Some other
    → HaveAllExits exits (take place others) → ((r : Control) → LeavesIn other.way other.tokens r → HasExit exits r)
    → HaveAllExits exits (take (place + 1) others)
covers_more exits others place other there before here r h =
    let seen : Contains (take (suc place) others) h.0 = rw (← add-one) h.1 in
    elim (before_more others place other h.0 there seen) as (λ _. HasExit exits r) [
      | inl was ↦ before r (h.0, was, h.2)
      | inr is ↦ here r (subst (λ (e : Exit). LeavesIn e.way e.tokens r) is h.2)
    ]

-- a fact that is known where a test holds
pub on_true : {P Q : Type 0} (b : Bool) → (P → Q) → OnTrue b P → OnTrue b Q
on_true true f p = f p
on_true false f p = tt

-- the members before the place after, and the one at a place
pub contains_more : {X : Type 0} (xs : List X) (i : ℕ) (y : X) → Contains (take i xs) y → Contains (take (suc i) xs) y
contains_more xs zero y (k, low, at) = absurd (omega (arith, low))
contains_more [] (suc i) y (k, low, at) = absurd (omega (arith, low))
contains_more (x ∷ xs) (suc i) y (zero, low, at) = (zero, omega arith, at)
contains_more (x ∷ xs) (suc i) y (suc k, low, at) =
    let more = contains_more xs i y (k, omega (arith, low), at) in let under = more.1 in (suc more.0, omega (arith, under), more.2)

pub contains_here : {X : Type 0} (xs : List X) (i : ℕ) (x : X) → slice_get xs i ≡ Some x → Contains (take (suc i) xs) x
contains_here {X} [] i x is = absurd (let none : ⊥ = cc in none)
contains_here {X} (y ∷ xs) zero x is = let first : y ≡ x = cc in (zero, omega arith, first)
contains_here (y ∷ xs) (suc i) x is =
    let more = contains_here xs i x is in let under = more.1 in (suc more.0, omega (arith, under), more.2)

-- if an exit leads to a control, the first exits do, too
pub exits_before : (exits : List Exit) (place : ℕ) (r : Control) → HasExit (take place exits) r → HasExit (take (place + 1) exits) r
exits_before exits place r h = (h.0, rw add-one (contains_more exits place h.0 h.1), h.2)

pub exits_here : (exits : List Exit) (place : ℕ) (exit : Exit) (r : Control) → slice_get exits place ≡ Some exit → LeavesIn exit.way exit.tokens r
    → HasExit (take (place + 1) exits) r
exits_here exits place exit r there leaves = (exit, rw add-one (contains_here exits place exit there), leaves)

-- the exit that leads to a control in common
pub met_in : (exits : List Exit) (way : Way) (tokens others : List Bool) → AreTokensAt exits way tokens → HaveCommon tokens others
    → (r : Control) × HasExit exits r × LeavesIn way others r
met_in exits way tokens others found common =
    let t = common.0 in
    let has_it : IsTrue (has found.0.tokens t) = subst (λ (bits : List Bool). IsTrue (has bits t)) (sym found.3) common.1 in
    (control_of way t, (found.0, found.1, (t, has_it, ap (λ (w : Way). control_of w t) found.2)), (t, common.2, refl))

-- room that is lost in steps
pub room_then : (b : Bool) (first now next : List Exit) → OnTrue b (room_left now < room_left first) → OnFalse b (now ≡ first)
    → room_left next < room_left now → room_left next < room_left first
room_then true first now next grown same less = omega (arith, grown, less)
room_then false first now next grown same less = subst (λ (l : List Exit). room_left next < room_left l) same less

-- what is added is added
pub adds_more : (P : Control → Type 0) (first now after : List Exit) (other : Exit) → AddsOnly P first now → AddsOnly (LeavesIn other.way other.tokens) now after
    → ((r : Control) → LeavesIn other.way other.tokens r → P r) → AddsOnly P first after
adds_more P first now after other before adds are r h =
    elim (adds r h) as (λ _. HasExit first r ⊎ P r) [ inl was ↦ before r was | inr new ↦ inr (are r new) ]

-- a number that gets less in steps
pub less_on : (before after : Bool) (first now next : ℕ) → after ≡ before → next ≤ now → OnTrue before (now < first) → OnTrue after (next < first)
less_on before after first now next is low less =
    subst (λ (b : Bool). OnTrue b (next < first)) (sym is) (on_true before (λ (h : now < first). let both : next < first = omega (arith, h, low) in both) less)

pub less_new : (result after : Bool) (first now next : ℕ) → result ≡ true → now ≤ first → OnTrue result (next < now) → OnTrue after (next < first)
less_new result after first now next is low less =
    let now_less : next < now = OnTrue_at is less in OnTrue_from after (next < first) (λ _. omega (arith, now_less, low))
