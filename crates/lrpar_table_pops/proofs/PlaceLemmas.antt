-- One exit for each core of a state with a symbol before the dot.
use Rattle.std.proofs.Common.{◌≡◌, ◌≤◌, ◌+◌, ◌-◌, ◌∙◌, inl, inr, suc, zero, ◌∷◌, ◌++◌, [], refl, sym, ap, subst, arith, add-one, ℕ, List, Some, length, map, slice_get, take}
use Rattle.std.specs.Prelude.{Contains}
use Rattle.std.proofs.lemmas.List.{length-map, take_all}
use Rattle.std.proofs.lemmas.List.Elements.{Contains-append_cases, Contains-append_left, Contains-append_right}
use Rattle.lrpar_grammar.specs.Grammar.{Grammar, tokens_len}
use Rattle.lrpar_grammar.specs.Tokens.{IsEmptySet}
use Rattle.lrpar_table_pops.specs.Exits.{HasNoExit}
use Rattle.lrpar_grammar_places.specs.declared.span.PIdx.{PIdx}
use Rattle.lrpar_grammar_places.specs.declared.span.StIdx.{StIdx}
use Rattle.lrpar_table_rows.specs.Graph.{Graph}
use Rattle.lrpar_table_rows.specs.PlainItems.{core_of}
use Rattle.lrpar_table_rows.specs.StoredItems.{AreKernelCoresAt}
use Rattle.lrpar_table_pops.specs.FoundAll.{AreExitsFor}
use Rattle.lrpar_table_pops.specs.Growth.{HasWay, HaveRoom}
use Rattle.lrpar_table_pops.specs.declared.exits.Exit.{Exit}
use Rattle.lrpar_table_pops.specs.declared.exits.Way.{Way}
use Rattle.lrpar_table_pops.specs.declared.exits.Way.TheVariants.{Acceptance, Reduction}
use Rattle.lrpar_table_pops.proofs.ExitLemmas.{before_more, no_exit_more}

-- there is an exit for each of these cores with a symbol before the dot
abbrev pub HaveWaysFor : List (ℕ × ℕ) → List Exit → Type 0
HaveWaysFor cores exits = (p left : ℕ) → Contains cores (p, suc left) → HasWay exits (Reduction p left)

mapped_at : {X Y : Type 0} (f : X → Y) (xs : List X) (i : ℕ) (x : X) → slice_get xs i ≡ Some x → slice_get (map f xs) i ≡ Some (f x)
mapped_at f [] i x is = absurd (let none : ⊥ = cc in none)
mapped_at {X} f (y ∷ xs) zero x is = let first : y ≡ x = cc in ap (λ (z : X). Some (f z)) first
mapped_at f (y ∷ xs) (suc i) x is = mapped_at f xs i x is

pub none_ways : (cores : List (ℕ × ℕ)) (exits : List Exit) → HaveWaysFor (take 0 cores) exits
none_ways cores exits p left h = absurd (let low = h.1 in omega (arith, low))

module _ (exits : List Exit) (exit : Exit) where
  one_in : Contains (exit ∷ []) exit
  one_in = (0, omega arith, refl)

  -- one exit more
  ways_pushed : (way : Way) → HasWay exits way → HasWay (exits ++ exit ∷ []) way
  ways_pushed way h = (h.0, Contains-append_left exits (exit ∷ []) h.0 h.1, h.2)

  way_pushed : (way : Way) → exit.way ≡ way → HasWay (exits ++ exit ∷ []) way
  way_pushed way is = (exit, Contains-append_right exits (exit ∷ []) exit one_in, is)

  pub exit_room : (n : ℕ) → HaveRoom n exits → length exit.tokens ≡ n → HaveRoom n (exits ++ exit ∷ [])
  exit_room n room long other h =
      elim (Contains-append_cases exits (exit ∷ []) other h) as (λ _. length other.tokens ≡ n) [
        | inl was ↦ room other was
        | inr new ↦ let same : exit ≡ other = only new in ap (λ (e : Exit). length e.tokens) (sym same) ∙ long
      ]
    where
      only : Contains (exit ∷ []) other → exit ≡ other
      only (zero, low, is) = is
      only (suc k, low, is) = absurd (omega (arith, low))

  module _ {S : Type 0} (index : S → ℕ) (cores : List (PIdx S × ℕ)) (place : ℕ) (core : PIdx S × ℕ) (there : slice_get cores place ≡ Some core) where
    pub ways_more : (prod : ℕ) → exit.way ≡ Reduction prod (core.1 - 1) → prod ≡ index core.0.0 → HaveWaysFor (take place (map (core_of index) cores)) exits
        → HaveWaysFor (take (place + 1) (map (core_of index) cores)) (exits ++ exit ∷ [])
    ways_more prod way is before p left h =
        let seen : Contains (take (suc place) (map (core_of index) cores)) (p, suc left) = rw (← add-one) h in
        elim (before_more (map (core_of index) cores) place (core_of index core) (p, suc left) (mapped_at (core_of index) cores place core there) seen) as
        (λ _. HasWay (exits ++ exit ∷ []) (Reduction p left)) [
          | inl was ↦ ways_pushed (Reduction p left) (before p left was)
          | inr here ↦
              let prods : p ≡ index core.0.0 = ap (λ (c : ℕ × ℕ). c.0) here in
              let dots : suc left ≡ core.1 = ap (λ (c : ℕ × ℕ). c.1) here in
              let lefts : core.1 - 1 ≡ left = omega (arith, dots) in
              way_pushed (Reduction p left) (way ∙ ap (λ (n : ℕ). Reduction n (core.1 - 1)) (is ∙ sym prods) ∙ ap (λ (n : ℕ). Reduction p n) lefts)
        ]

  -- all cores, and the one for a run that has accepted
  pub all_places : {S : Type 0} (index : S → ℕ) (g : Grammar) (graph : Graph) (s : StIdx S) (cores : List (PIdx S × ℕ)) (place : ℕ)
      → AreKernelCoresAt index graph s cores → length cores ≤ place → HaveWaysFor (take place (map (core_of index) cores)) exits → HaveRoom (tokens_len g) exits
      → exit.way ≡ Acceptance → length exit.tokens ≡ tokens_len g → AreExitsFor g graph (index s.0) (exits ++ exit ∷ [])
  all_places {S} index g graph s cores place are end ways room way long = record {
    cores = λ p left core.
        let there = (are p (suc left)).0 (core, omega arith) in
        let whole = take_all place (map (core_of index) cores) (let same = length-map cores (core_of index) in omega (arith, end, same)) in
        ways_pushed (Reduction p left) (ways p left (subst (λ (l : List (ℕ × ℕ)). Contains l (p, suc left)) (sym whole) there));
    accepted = way_pushed Acceptance way;
    room = exit_room (tokens_len g) room long;
  }

-- a core without a symbol before the dot
pub ways_skip : {S : Type 0} (exits : List Exit) (index : S → ℕ) (cores : List (PIdx S × ℕ)) (place : ℕ) (core : PIdx S × ℕ) → slice_get cores place ≡ Some core → core.1 ≤ 0 → HaveWaysFor (take place (map (core_of index) cores)) exits → HaveWaysFor (take (place + 1) (map (core_of index) cores)) exits
ways_skip exits index cores place core there none before p left h =
    let seen : Contains (take (suc place) (map (core_of index) cores)) (p, suc left) = rw (← add-one) h in
    elim (before_more (map (core_of index) cores) place (core_of index core) (p, suc left) (mapped_at (core_of index) cores place core there) seen) as
    (λ _. HasWay exits (Reduction p left)) [
      | inl was ↦ before p left was
      | inr here ↦ let dots : suc left ≡ core.1 = ap (λ (c : ℕ × ℕ). c.1) here in absurd (omega (arith, dots, none))
    ]

-- the exits of the cores before a place, as yet without lookaheads
abbrev pub AreExitsSoFar : ℕ → List (ℕ × ℕ) → ℕ → List Exit → Type 0
AreExitsSoFar n cores place exits = record { none : HasNoExit exits; cores : HaveWaysFor (take place cores) exits; room : HaveRoom n exits }

pub exits_start : (n : ℕ) (cores : List (ℕ × ℕ)) → AreExitsSoFar n cores 0 []
exits_start n cores = record {
  none = λ r h. absurd (let low = h.1.1 in omega (arith, low));
  cores = none_ways cores [];
  room = λ exit h. absurd (let low = h.1 in omega (arith, low));
}

pub exits_step : (n : ℕ) (exits : List Exit) (exit : Exit) {S : Type 0} (index : S → ℕ) (cores : List (PIdx S × ℕ)) (place : ℕ) (core : PIdx S × ℕ)
    → slice_get cores place ≡ Some core → (prod : ℕ) → exit.way ≡ Reduction prod (core.1 - 1) → prod ≡ index core.0.0 → length exit.tokens ≡ n → IsEmptySet exit.tokens
    → AreExitsSoFar n (map (core_of index) cores) place exits → AreExitsSoFar n (map (core_of index) cores) (place + 1) (exits ++ exit ∷ [])
exits_step n exits exit index cores place core there prod way is long empty before = record {
  none = no_exit_more exits exit before.none empty;
  cores = ways_more exits exit index cores place core there prod way is before.cores;
  room = exit_room exits exit n before.room long;
}

pub exits_skip : (n : ℕ) (exits : List Exit) {S : Type 0} (index : S → ℕ) (cores : List (PIdx S × ℕ)) (place : ℕ) (core : PIdx S × ℕ)
    → slice_get cores place ≡ Some core → core.1 ≤ 0 → AreExitsSoFar n (map (core_of index) cores) place exits
    → AreExitsSoFar n (map (core_of index) cores) (place + 1) exits
exits_skip n exits index cores place core there none before = record {
  none = before.none;
  cores = ways_skip exits index cores place core there none before.cores;
  room = before.room;
}
