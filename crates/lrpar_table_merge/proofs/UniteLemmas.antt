-- The union of two kernels, core by core.
use Rattle.std.proofs.Common.{◌≡◌, ◌<◌, ◌≤◌, ◌+◌, ◌||◌, ◌∙◌, refl, sym, ap, subst, inl, inr, arith, ℕ, Bool, true, false, List, [], get_or, length, map, set}
use Rattle.std.specs.Bool.{OnFalse, OnTrue}
use Rattle.std.proofs.lemmas.Bool.{OnFalse_at, OnTrue_at, cases_Bool, cases_eq, cases_lt}
use Rattle.std.proofs.lemmas.List.{get_or-map, get_or-set_other, get_or-set_same, get_or_past, length-map, map-set, set-get_or}
use Rattle.lrpar_grammar.specs.Tokens.{has, missing}
use Rattle.lrpar_table_first.specs.FirstRows.{total_missing}
use Rattle.lrpar_table_first.proofs.GrowthLemmas.{missing_set}
use Rattle.lrpar_table_items.specs.Cores.{CoreSet, core_set}
use Rattle.lrpar_table_items.specs.declared.cores.CoreItems.{CoreItems}
use Rattle.lrpar_table_items.proofs.FindLemmas.{same_at}
use Rattle.lrpar_table_merge.specs.Compatible.{HaveSameCores, lookahead_rows, lookaheads_at, lr0_core}
use Rattle.lrpar_table_merge.specs.United.{AreUnited, rooms_of}
use Rattle.lrpar_table_merge.proofs.SameCoreLemmas.{lookaheads_of, map_twice}

-- a list with one element replaced by one with the same image
pub map_set_same : {X Y : Type 0} (f : X → Y) (xs : List X) (i : ℕ) (y d : X) → i < length xs → f y ≡ f (get_or xs i d) → map f (set xs i y) ≡ map f xs
map_set_same f xs i y d low same =
    map-set f xs i y ∙ ap (set (map f xs) i) (same ∙ sym (get_or-map f xs i d (f d) low)) ∙ set-get_or (map f xs) i (f d)

-- after one more core: something was new, or nothing so far
pub step_grown : (first before after : List (List Bool)) (grown : Bool) → OnTrue grown (total_missing before < total_missing first)
    → OnFalse grown (before ≡ first) → total_missing after < total_missing before → total_missing after < total_missing first
step_grown first before after grown less same fewer =
    elim (cases_Bool grown) [
      | inl held ↦ let less' = OnTrue_at held less in omega (arith, less', fewer)
      | inr fell ↦ let same' = OnFalse_at fell same in subst (λ rows. total_missing after < total_missing rows) same' fewer
    ]

-- the first n cores have the lookaheads of both kernels, the others are as before
pub record AreUnitedBelow (before other after : List CoreSet) (n : ℕ) : Type 0 where
  pub same : HaveSameCores after before
  pub room : rooms_of after ≡ rooms_of before
  pub done : (i t : ℕ) → i < n → has (lookaheads_at after i) t ≡ (has (lookaheads_at before i) t || has (lookaheads_at other i) t)
  pub left : (i : ℕ) → n ≤ i → lookaheads_at after i ≡ lookaheads_at before i

-- at first
pub united_none : (before other : List CoreSet) → AreUnitedBelow before other before 0
united_none before other = record { same = refl; room = refl; done = λ i t low. absurd (omega (arith, low)); left = λ i past. refl }

module _ (cores : List CoreSet) (place : ℕ) (core d : CoreSet) (low : place < length cores) where
  row_low : place < length (lookahead_rows cores)
  row_low = omega (arith, low, length-map cores (λ (c : CoreSet). c.tokens))

  rows_set : lookahead_rows (set cores place core) ≡ set (lookahead_rows cores) place core.tokens
  rows_set = map-set (λ (c : CoreSet). c.tokens) cores place core

  pub at_same : lookaheads_at (set cores place core) place ≡ core.tokens
  at_same = ap (λ rows. get_or rows place []) rows_set ∙ get_or-set_same (lookahead_rows cores) place core.tokens [] row_low

  pub at_other : (i : ℕ) → (i ≡ place → ⊥) → lookaheads_at (set cores place core) i ≡ lookaheads_at cores i
  at_other i other = ap (λ rows. get_or rows i []) rows_set ∙ get_or-set_other (lookahead_rows cores) place i core.tokens [] other

  at_place : lookaheads_at cores place ≡ (get_or cores place d).tokens
  at_place = get_or-map (λ (c : CoreSet). c.tokens) cores place d [] low

  -- with fewer missing tokens in one core, fewer are missing in all
  pub fewer_missing : missing core.tokens < missing (get_or cores place d).tokens
      → total_missing (lookahead_rows (set cores place core)) < total_missing (lookahead_rows cores)
  fewer_missing less =
      let less' = subst (λ row. missing core.tokens < missing row) (sym at_place) less in
      subst (λ rows. total_missing rows < total_missing (lookahead_rows cores)) (sym rows_set)
      (missing_set (lookahead_rows cores) place core.tokens row_low less')

  -- one more core is united
  pub united_more : (before other : List CoreSet) → lr0_core core ≡ lr0_core (get_or cores place d)
      → length core.tokens ≡ length (get_or cores place d).tokens
      → ((t : ℕ) → has core.tokens t ≡ (has (get_or cores place d).tokens t || has (lookaheads_at other place) t))
      → AreUnitedBelow before other cores place → AreUnitedBelow before other (set cores place core) (place + 1)
  united_more before other same room tokens so_far = record {
    same = map_set_same lr0_core cores place core d low same ∙ so_far.same;
    room = map_set_same (λ (c : CoreSet). length c.tokens) cores place core d low room ∙ so_far.room;
    done = λ i t below.
        elim (cases_eq i place) as (λ _. has (lookaheads_at (set cores place core) i) t ≡ (has (lookaheads_at before i) t || has (lookaheads_at other i) t)) [
          | inl here ↦
              let was : lookaheads_at before place ≡ (get_or cores place d).tokens = sym (so_far.left place (omega arith)) ∙ at_place in
              subst (λ n. has (lookaheads_at (set cores place core) n) t ≡ (has (lookaheads_at before n) t || has (lookaheads_at other n) t)) (sym here)
              (ap (λ row. has row t) at_same ∙ tokens t ∙ ap (λ row. has row t || has (lookaheads_at other place) t) (sym was))
          | inr away ↦ ap (λ row. has row t) (at_other i away) ∙ so_far.done i t (omega (arith, below, away))
        ];
    left = λ i past. at_other i (λ here. omega (arith, past, here)) ∙ so_far.left i (omega (arith, past));
  }

or_none : (x : Bool) → x ≡ (x || false)
or_none true = refl
or_none false = refl

-- a list of cores has no lookaheads out of range
row_past : (cores : List CoreSet) (i : ℕ) → length cores ≤ i → lookaheads_at cores i ≡ []
row_past cores i past = get_or_past (lookahead_rows cores) i [] (omega (arith, past, length-map cores (λ (c : CoreSet). c.tokens)))

-- then all are
pub united_all : (before other after : List CoreSet) (n : ℕ) → length other ≤ n → AreUnitedBelow before other after n → AreUnited before other after
united_all before other after n short so_far = record {
  same = so_far.same;
  room = so_far.room;
  tokens = λ i t.
      elim (cases_lt i n) [
        | inl low ↦ so_far.done i t low
        | inr past ↦
            let none : lookaheads_at other i ≡ [] = row_past other i (omega (arith, short, past)) in
            ap (λ row. has row t) (so_far.left i past) ∙ or_none (has (lookaheads_at before i) t)
            ∙ ap (λ row. has (lookaheads_at before i) t || has row t) (sym none)
      ];
}

module _ {S : Type 0} (index : S → ℕ) (kernel : List (CoreItems S)) (place : ℕ) (core d : CoreItems S) (low : place < length kernel) where
  at_value : get_or (map (core_set index) kernel) place (core_set index d) ≡ core_set index (get_or kernel place d)
  at_value = get_or-map (core_set index) kernel place d (core_set index d) low

  value_low : place < length (map (core_set index) kernel)
  value_low = omega (arith, low, length-map kernel (core_set index))

  -- one more core is united, as a value
  pub united_value : (before other : List CoreSet) (row : List Bool) → row ≡ lookaheads_at other place
      → lr0_core (core_set index core) ≡ lr0_core (core_set index (get_or kernel place d))
      → length core.tokens ≡ length (get_or kernel place d).tokens
      → ((t : ℕ) → has core.tokens t ≡ (has (get_or kernel place d).tokens t || has row t))
      → AreUnitedBelow before other (map (core_set index) kernel) place → AreUnitedBelow before other (map (core_set index) (set kernel place core)) (place + 1)
  united_value before other row is same room tokens so_far =
      let at = at_value in
      subst (λ cores. AreUnitedBelow before other cores (place + 1)) (sym (map-set (core_set index) kernel place core))
      (united_more (map (core_set index) kernel) place (core_set index core) (core_set index d) value_low before other
      (same ∙ sym (ap lr0_core at)) (room ∙ sym (ap (λ (c : CoreSet). length c.tokens) at))
      (λ t. tokens t ∙ ap (λ (c : CoreSet). has c.tokens t || has row t) (sym at)
      ∙ ap (λ r. has (get_or (map (core_set index) kernel) place (core_set index d)).tokens t || has r t) is)
      so_far)

  pub fewer_value : missing core.tokens < missing (get_or kernel place d).tokens
      → total_missing (lookahead_rows (map (core_set index) (set kernel place core))) < total_missing (lookahead_rows (map (core_set index) kernel))
  fewer_value less =
      subst (λ cores. total_missing (lookahead_rows cores) < total_missing (lookahead_rows (map (core_set index) kernel)))
      (sym (map-set (core_set index) kernel place core))
      (fewer_missing (map (core_set index) kernel) place (core_set index core) (core_set index d) value_low
      (subst (λ (c : CoreSet). missing core.tokens < missing c.tokens) (sym at_value) less))

-- the set of a core has as much room as that of the core at the same place
pub room_at : {S : Type 0} (index : S → ℕ) (kernel other : List (CoreItems S)) (i : ℕ) (core more : CoreItems S) → i < length kernel → i < length other
    → core ≡ get_or kernel i core → more ≡ get_or other i more → rooms_of (map (core_set index) kernel) ≡ rooms_of (map (core_set index) other)
    → length core.tokens ≡ length more.tokens
room_at index kernel other i core more low below is more_is same =
    let room = λ (c : CoreSet). length c.tokens in
    same_at (λ c. room (core_set index c)) kernel other i core more low below is more_is
    (sym (map_twice room (core_set index) kernel) ∙ same ∙ map_twice room (core_set index) other)

-- the lookaheads of a value
pub row_value : {S : Type 0} (index : S → ℕ) (other : List (CoreItems S)) (i : ℕ) (more : CoreItems S) → i < length other → more ≡ get_or other i more
    → more.tokens ≡ lookaheads_at (map (core_set index) other) i
row_value index other i more low is = ap (λ (c : CoreItems _). c.tokens) is ∙ sym (lookaheads_of index other i more low)
