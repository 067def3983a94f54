-- Replays and error points: a sequence that works can be replayed, with one result, and a run stops where it can feed no more.
use Rattle.std.proofs.Common.{◌≡◌, ◌≤◌, ◌+◌, ◌∙◌, inl, inr, ℕ, zero, suc, List, [], ◌∷◌, ◌++◌, length, refl, sym, subst, arith}
use Rattle.lrpar_grammar.specs.Grammar.{Grammar}
use Rattle.lrpar_table_rows.specs.Table.{Table}
use Rattle.lrpar_table_stacks.specs.Reduction.{IsSettled}
use Rattle.lrpar_table_stacks.specs.Run.{Far, FarEnd, Accepted, Stopped, IsStuck, accepts, goes_on, stops, token_at}
use Rattle.lrpar_parse_repair.specs.Sequences.{PlainStep, PlainInsert, PlainDelete, PlainShift, CanGoOn, Replays, StepsTo, Works}
use Rattle.lrpar_table_stacks.proofs.RunLemmas.{accepts_not_stuck, feeds_not_stuck, feeds_one_way, settles_settled}
use Rattle.lrpar_parse_repair.proofs.SequenceLemmas.{steps_one_way}
use Rattle.lrpar_parse_repair.specs.Replays.{ReplaysOneWay, WorksByReplay, places_of}

module _ {X : Type 0} (token : X → ℕ) (g : Grammar) (table : Table) (lexemes : List X) where
  -- what works can be replayed
  pub works_replays : (k : ℕ) (st : List ℕ) (i : ℕ) (steps : List PlainStep) → Works token g table lexemes k st i steps
      → ((prods after : List ℕ) × (j : ℕ) × Replays token g table lexemes st i steps prods after j × CanGoOn token g table lexemes k after j)
  works_replays k st i [] h = ([], st, i, (refl, refl, refl), h)
  works_replays k st i (step ∷ steps) h =
      let more = works_replays k h.1 h.2 steps h.4 in
      (h.0 ++ more.0, more.1, more.2, (h.0, h.1, h.2, more.0, h.3, more.3, refl), more.4)

  -- and what can be replayed works, if it goes on after that
  replays_works : (k : ℕ) (st : List ℕ) (i : ℕ) (steps : List PlainStep) (prods after : List ℕ) (j : ℕ)
      → Replays token g table lexemes st i steps prods after j → CanGoOn token g table lexemes k after j → Works token g table lexemes k st i steps
  replays_works k st i [] prods after j r on =
      subst (λ (l : List ℕ). CanGoOn token g table lexemes k l i) r.1 (subst (λ (m : ℕ). CanGoOn token g table lexemes k after m) r.2 on)
  replays_works k st i (step ∷ steps) prods after j r on = (r.0, r.1, r.2, r.4, replays_works k r.1 r.2 steps r.3 after j r.5 on)

  -- a replay has one result
  pub replays_one_way : (st : List ℕ) (i : ℕ) (steps : List PlainStep) (ps a : List ℕ) (j : ℕ) (qs b : List ℕ) (k : ℕ)
      → Replays token g table lexemes st i steps ps a j → Replays token g table lexemes st i steps qs b k → (ps ≡ qs) × (a ≡ b) × (j ≡ k)
  replays_one_way st i [] ps a j qs b k x y = (x.0 ∙ sym y.0, x.1 ∙ sym y.1, x.2 ∙ sym y.2)
  replays_one_way st i (step ∷ steps) ps a j qs b k x y =
      let same = steps_one_way token g table lexemes st i step x.0 x.1 x.2 y.0 y.1 y.2 x.4 y.4 in
      let more = replays_one_way x.1 x.2 steps x.3 a j y.3 b k x.5
      (subst (λ (l : List ℕ). Replays token g table lexemes l x.2 steps y.3 b k) (sym same.1) (subst (λ (m : ℕ). Replays token g table lexemes y.1 m steps y.3 b k) (sym same.2) y.5)) in
      let first : x.0 ≡ y.0 = same.0 in
      let rest : x.3 ≡ y.3 = more.0 in
      let joined : x.0 ++ x.3 ≡ y.0 ++ y.3 = cc in
      (x.6 ∙ joined ∙ sym y.6, more.1, more.2)

  -- a step goes past the lexemes that it takes
  step_place : (st : List ℕ) (i : ℕ) (step : PlainStep) (steps : List PlainStep) (ps next : List ℕ) (j : ℕ)
      → StepsTo token g table lexemes st i step ps next j → j + places_of steps ≡ i + places_of (step ∷ steps)
  step_place st i (PlainInsert t) steps ps next j x = omega (arith, x.2)
  step_place st i PlainDelete steps ps next j x = omega (arith, x.3)
  step_place st i PlainShift steps ps next j x = omega (arith, x.2)

  -- and so do steps that are replayed
  pub replays_place : (st : List ℕ) (i : ℕ) (steps : List PlainStep) (ps after : List ℕ) (j : ℕ) → Replays token g table lexemes st i steps ps after j
      → j ≡ i + places_of steps
  replays_place st i [] ps after j x = omega (arith, x.2)
  replays_place st i (step ∷ steps) ps after j x =
      omega (arith, replays_place x.1 x.2 steps x.3 after j x.5, step_place st i step steps x.0 x.1 x.2 x.4)

  -- where a run stops: at a settled stack that goes no further, at a place of the lexemes, at place m or after it
  abbrev pub StopsFrom : ℕ → FarEnd → Type 0
  StopsFrom m Accepted = Unit {0}
  StopsFrom m (Stopped stop) =
      (m ≤ stop.place) × (stop.place ≤ length lexemes) × IsSettled table (token_at token g lexemes stop.place) stop.stack
      × IsStuck token g table lexemes stop.stack stop.place

  stops_later : (m n : ℕ) (end : FarEnd) → m ≤ n → StopsFrom n end → StopsFrom m end
  stops_later m n Accepted le h = tt
  stops_later m n (Stopped stop) le h = (omega (arith, le, h.0), h.1, h.2, h.3)

  pub far_stops : (st : List ℕ) (i : ℕ) (ps : List ℕ) (end : FarEnd) → Far token g table lexemes st i ps end → StopsFrom i end
  far_stops _ _ _ _ (goes_on st i ps qs next end within first rest) = stops_later i (i + 1) end (omega arith) (far_stops next (i + 1) qs end rest)
  far_stops _ _ _ _ (accepts st i ps settled at_end settles accepted) = tt
  far_stops _ _ _ _ (stops st i ps settled fits settles stuck) =
      (omega arith, fits, settles_settled g table (token_at token g lexemes i) st ps settled settles, stuck)

  -- if k lexemes can be fed, a run stops no earlier than after them
  pub go_on_far : (k : ℕ) (st : List ℕ) (i : ℕ) (ps : List ℕ) (end : FarEnd) → CanGoOn token g table lexemes k st i → Far token g table lexemes st i ps end
      → StopsFrom (i + k) end
  go_on_far zero st i ps end on far = stops_later (i + zero) i end (omega arith) (far_stops st i ps end far)
  go_on_far (suc k) _ _ _ _ on (goes_on st i ps qs next end within first rest) =
      elim on as (λ _. StopsFrom (i + suc k) end) [
        | inl fed ↦
            let same = feeds_one_way g table (token_at token g lexemes i) st fed.1.0 fed.1.1 ps next fed.1.2 first in
            stops_later (i + suc k) (i + 1 + k) end (omega arith)
            (go_on_far k next (i + 1) qs end (subst (λ (l : List ℕ). CanGoOn token g table lexemes k l (i + 1)) same.1 fed.1.3) rest)
        | inr ends ↦ absurd (omega (arith, within, ends.0))
      ]
  go_on_far (suc k) _ _ _ _ on (accepts st i ps settled at_end settles accepted) = tt
  go_on_far (suc k) _ _ _ _ on (stops st i ps settled fits settles stuck) =
      elim on as (λ _. StopsFrom (i + suc k) (Stopped (record { stack = settled; place = i }))) [
        | inl fed ↦ absurd (feeds_not_stuck token g table lexemes st i fed.1.0 fed.1.1 ps settled fed.0 fed.1.2 settles stuck)
        | inr ends ↦ absurd (accepts_not_stuck token g table lexemes st i ends.1.prods ends.1.settled ps settled ends.0 ends.1.settles ends.1.action settles stuck)
      ]

pub works_by_replay : {X : Type 0} → WorksByReplay X
works_by_replay token g table lexemes k st i steps = (
  works_replays token g table lexemes k st i steps,
  (λ h. replays_works token g table lexemes k st i steps h.0 h.1 h.2 h.3 h.4),
)

pub replay_one_way : {X : Type 0} → ReplaysOneWay X
replay_one_way token g table lexemes st i steps ps a j qs b k x y = replays_one_way token g table lexemes st i steps ps a j qs b k x y
