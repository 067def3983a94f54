-- The configurations to which steps lead, and what steps cost, step by step.
use Rattle.std.proofs.Common.{◌≡◌, ◌<◌, ◌≤◌, ◌+◌, ◌∙◌, inl, inr, ℕ, zero, suc, List, [], ◌∷◌, ◌++◌, refl, sym, subst, ap, arith, replicate}
use Rattle.lrpar_grammar.specs.Grammar.{Grammar}
use Rattle.lrpar_table_rows.specs.Table.{Table}
use Rattle.lrpar_table_stacks.specs.Run.{token_at}
use Rattle.lrpar_parse_repair.specs.Sequences.{PlainStep, PlainInsert, PlainDelete, PlainShift, CanGoOn, Replays, StepsTo, Works}
use Rattle.lrpar_parse_repair.proofs.SequenceLemmas.{steps_one_way}
use Rattle.lrpar_parse_cpctplus.specs.Costs.{place_after, step_cost, steps_cost, token_cost}

-- the place after steps from place i on
abbrev pub place_past : ℕ → List PlainStep → ℕ
place_past i [] = i
place_past i (step ∷ steps) = place_past (place_after i step) steps

module _ {X : Type 0} (token : X → ℕ) (g : Grammar) (lexemes : List X) (costs : List ℕ) where
  cost : ℕ → List PlainStep → ℕ
  cost = steps_cost token g lexemes costs

  -- what two parts cost
  pub cost_append : (i : ℕ) (p q : List PlainStep)
      → steps_cost token g lexemes costs i (p ++ q) ≡ steps_cost token g lexemes costs i p + steps_cost token g lexemes costs (place_past i p) q
  cost_append i [] q = omega arith
  cost_append i (s ∷ p) q = omega (arith, cost_append (place_after i s) p q)

  -- one step more
  pub cost_push : (i : ℕ) (p : List PlainStep) (s : PlainStep)
      → steps_cost token g lexemes costs i (p ++ s ∷ []) ≡ steps_cost token g lexemes costs i p + step_cost token g lexemes costs (place_past i p) s
  cost_push i p s = omega (arith, cost_append i p (s ∷ []))

  -- a beginning costs no more
  pub cost_begins : (i : ℕ) (p q : List PlainStep) → steps_cost token g lexemes costs i p ≤ steps_cost token g lexemes costs i (p ++ q)
  cost_begins i p q = omega (arith, cost_append i p q)

  -- steps of which the last is no Shift cost something, if each token does
  pub cost_some : ((t : ℕ) → 0 < token_cost costs t) → (i : ℕ) (p : List PlainStep) (s : PlainStep) → ¬ (s ≡ PlainShift)
      → 0 < steps_cost token g lexemes costs i (p ++ s ∷ [])
  cost_some each i p (PlainInsert t) other = omega (arith, cost_push i p (PlainInsert t), each t)
  cost_some each i p PlainDelete other = omega (arith, cost_push i p PlainDelete, each (token_at token g lexemes (place_past i p)))
  cost_some each i p PlainShift other = absurd (other refl)

module _ {X : Type 0} (token : X → ℕ) (g : Grammar) (table : Table) (lexemes : List X) where
  -- steps lead to the place after them
  pub step_place : (st : List ℕ) (i : ℕ) (s : PlainStep) (ps next : List ℕ) (j : ℕ) → StepsTo token g table lexemes st i s ps next j → j ≡ place_after i s
  step_place st i (PlainInsert t) ps next j x = x.2
  step_place st i PlainDelete ps next j x = x.3
  step_place st i PlainShift ps next j x = x.2

  pub replays_place : (st : List ℕ) (i : ℕ) (p : List PlainStep) (ps after : List ℕ) (j : ℕ) → Replays token g table lexemes st i p ps after j
      → j ≡ place_past i p
  replays_place st i [] ps after j x = x.2
  replays_place st i (s ∷ p) ps after j x =
      replays_place x.1 x.2 p x.3 after j x.5 ∙ ap (λ (m : ℕ). place_past m p) (step_place st i s x.0 x.1 x.2 x.4)

  -- steps in two parts
  pub record Parted (st : List ℕ) (i : ℕ) (p q : List PlainStep) (after : List ℕ) (j : ℕ) : Type 0 where
    pub first : List ℕ
    pub mid : List ℕ
    pub place : ℕ
    pub second : List ℕ
    pub before : Replays token g table lexemes st i p first mid place
    pub further : Replays token g table lexemes mid place q second after j

  pub replays_parted : (st : List ℕ) (i : ℕ) (p q : List PlainStep) (ps after : List ℕ) (j : ℕ) → Replays token g table lexemes st i (p ++ q) ps after j
      → Parted st i p q after j
  replays_parted st i [] q ps after j x = record {
    first = [];
    mid = st;
    place = i;
    second = ps;
    before = (refl, refl, refl);
    further = x;
  }
  replays_parted st i (s ∷ p) q ps after j x =
      let more = replays_parted x.1 x.2 p q x.3 after j x.5 in
      record {
        first = x.0 ++ more.first;
        mid = more.mid;
        place = more.place;
        second = more.second;
        before = (x.0, x.1, x.2, more.first, x.4, more.before, refl);
        further = more.further;
      }

  pub replays_joined : (st : List ℕ) (i : ℕ) (p q : List PlainStep) (ps mid : List ℕ) (j : ℕ) (qs after : List ℕ) (n : ℕ)
      → Replays token g table lexemes st i p ps mid j → Replays token g table lexemes mid j q qs after n
      → (prods : List ℕ) × Replays token g table lexemes st i (p ++ q) prods after n
  replays_joined st i [] q ps mid j qs after n x y = (
    qs,
    subst (λ (l : List ℕ). Replays token g table lexemes l i q qs after n) x.1
        (subst (λ (m : ℕ). Replays token g table lexemes mid m q qs after n) x.2 y),
  )
  replays_joined st i (s ∷ p) q ps mid j qs after n x y =
      let more = replays_joined x.1 x.2 p q x.3 mid j qs after n x.5 y in
      (x.0 ++ more.0, (x.0, x.1, x.2, more.0, x.4, more.1, refl))

  -- what works can be taken, and goes on
  pub works_leads : (k : ℕ) (st : List ℕ) (i : ℕ) (p : List PlainStep) → Works token g table lexemes k st i p
      → ((ps after : List ℕ) × (j : ℕ) × Replays token g table lexemes st i p ps after j × CanGoOn token g table lexemes k after j)
  works_leads k st i [] h = ([], st, i, (refl, refl, refl), h)
  works_leads k st i (s ∷ p) h =
      let more = works_leads k h.1 h.2 p h.4 in
      (h.0 ++ more.0, more.1, more.2, (h.0, h.1, h.2, more.0, h.3, more.3, refl), more.4)

  pub leads_works : (k : ℕ) (st : List ℕ) (i : ℕ) (p : List PlainStep) (ps after : List ℕ) (j : ℕ)
      → Replays token g table lexemes st i p ps after j → CanGoOn token g table lexemes k after j → Works token g table lexemes k st i p
  leads_works k st i [] ps after j x on =
      subst (λ (l : List ℕ). CanGoOn token g table lexemes k l i) x.1 (subst (λ (m : ℕ). CanGoOn token g table lexemes k after m) x.2 on)
  leads_works k st i (s ∷ p) ps after j x on = (x.0, x.1, x.2, x.4, leads_works k x.1 x.2 p x.3 after j x.5 on)

  -- what works is taken by one run only
  pub works_on : (k : ℕ) (st : List ℕ) (i : ℕ) (p : List PlainStep) (ps after : List ℕ) (j : ℕ)
      → Replays token g table lexemes st i p ps after j → Works token g table lexemes k st i p → CanGoOn token g table lexemes k after j
  works_on k st i [] ps after j x on =
      subst (λ (l : List ℕ). CanGoOn token g table lexemes k l j) (sym x.1) (subst (λ (m : ℕ). CanGoOn token g table lexemes k st m) (sym x.2) on)
  works_on k st i (s ∷ p) ps after j x h =
      let same = steps_one_way token g table lexemes st i s x.0 x.1 x.2 h.0 h.1 h.2 x.4 h.3 in
      let next = subst (λ (l : List ℕ). Works token g table lexemes k l x.2 p) (sym same.1)
      (subst (λ (m : ℕ). Works token g table lexemes k h.1 m p) (sym same.2) h.4) in
      works_on k x.1 x.2 p x.3 after j x.5 next

  -- if more lexemes can be fed, so can fewer
  pub fewer_go_on : (n m : ℕ) (st : List ℕ) (i : ℕ) → CanGoOn token g table lexemes (n + m) st i → CanGoOn token g table lexemes n st i
  fewer_go_on zero m st i h = tt
  fewer_go_on (suc n) m st i h =
      let sum : suc n + m ≡ suc (n + m) = omega arith in
      let on = subst (λ (l : ℕ). CanGoOn token g table lexemes l st i) sum h in
      elim on as (λ _. CanGoOn token g table lexemes (suc n) st i) [
        | inl fed ↦ inl (fed.0, (fed.1.0, fed.1.1, fed.1.2, fewer_go_on n m fed.1.1 (i + 1) fed.1.3))
        | inr ends ↦ inr ends
      ]

  -- Shifts that can be taken feed lexemes
  pub shifts_go_on : (n k : ℕ) (st : List ℕ) (i : ℕ) (ps after : List ℕ) (j : ℕ)
      → Replays token g table lexemes st i (replicate n PlainShift) ps after j → CanGoOn token g table lexemes k after j
      → CanGoOn token g table lexemes (n + k) st i
  shifts_go_on zero k st i ps after j x on =
      let sum : k ≡ zero + k = omega arith in
      subst (λ (l : ℕ). CanGoOn token g table lexemes l st i) sum
      (subst (λ (l : List ℕ). CanGoOn token g table lexemes k l i) x.1 (subst (λ (m : ℕ). CanGoOn token g table lexemes k after m) x.2 on))
  shifts_go_on (suc n) k st i ps after j x on =
      let sum : suc (n + k) ≡ suc n + k = omega arith in
      let rest = shifts_go_on n k x.1 x.2 x.3 after j x.5 on in
      subst (λ (l : ℕ). CanGoOn token g table lexemes l st i) sum
      (inl (x.4.0, (x.0, x.1, x.4.1, subst (λ (m : ℕ). CanGoOn token g table lexemes (n + k) x.1 m) x.4.2 rest)))
