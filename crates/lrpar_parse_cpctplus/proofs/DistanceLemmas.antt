-- How far configurations are from the error point: each has at most one distance, a beginning of a cheapest sequence is a cheapest
-- one, and configurations with costs that are closed under the steps are all that there are, at their distances.
use Rattle.std.proofs.Common.{◌≡◌, ◌<◌, ◌≤◌, ◌+◌, ◌∙◌, ◌⊎◌, inl, inr, ℕ, zero, suc, List, [], ◌∷◌, ◌++◌, refl, sym, subst, ap, ap₂, arith}
use Rattle.std.proofs.lemmas.List.{append_assoc}
use Rattle.lrpar_parse_repair.specs.Asked.{Asked}
use Rattle.lrpar_parse_repair.specs.Sequences.{PlainStep, Replays}
use Rattle.lrpar_parse_cpctplus.specs.LinkPaths.{IsLinkPath, IsLink}
use Rattle.lrpar_parse_cpctplus.specs.Cheapest.{cost_of}
use Rattle.lrpar_parse_cpctplus.specs.Configurations.{Configured, IsDistance, IsEdge, IsNearer, LeadTo, edge_cost, root_of}
use Rattle.lrpar_parse_cpctplus.specs.Costs.{steps_cost}
use Rattle.lrpar_parse_cpctplus.proofs.LeadLemmas.{cost_append, replays_joined, replays_parted, replays_place}

-- a number is below another one, the same, or above it
pub compare : (m n : ℕ) → (m < n) ⊎ ((m ≡ n) ⊎ (n < m))
compare zero zero = inr (inl refl)
compare zero (suc n) = inl (omega arith)
compare (suc m) zero = inr (inr (omega arith))
compare (suc m) (suc n) =
    elim (compare m n) as (λ _. (suc m < suc n) ⊎ ((suc m ≡ suc n) ⊎ (suc n < suc m))) [
      | inl l ↦ inl (omega (arith, l))
      | inr r ↦ elim r as (λ _. (suc m < suc n) ⊎ ((suc m ≡ suc n) ⊎ (suc n < suc m))) [ inl e ↦ inr (inl (ap suc e)) | inr h ↦ inr (inr (omega (arith, h))) ]
    ]

-- a number that isn't above another one is at most that
pub at_most : (a b : ℕ) → ¬ (¬ (a ≤ b)) → a ≤ b
at_most a b h =
    elim (compare a b) as (λ _. a ≤ b) [
      | inl below ↦ omega (arith, below)
      | inr other ↦ elim other as (λ _. a ≤ b) [ inl e ↦ omega (arith, e) | inr above ↦ absurd (h (λ le. omega (arith, le, above))) ]
    ]

-- the configuration of a stack at a place
abbrev pub configured : List ℕ → ℕ → Configured
configured stack place = record { stack = stack; place = place }

module _ {X : Type 0} (token : X → ℕ) (at : Asked X) where
  -- the steps lead from u to v
  abbrev pub Runs : Configured → List PlainStep → Configured → Type 0
  Runs u steps v =
      (prods : List ℕ) × Replays token at.checked.grammar at.checked.table at.lexemes u.stack u.place steps prods v.stack v.place

  -- no steps lead nowhere else
  pub runs_none : (u v : Configured) → Runs u [] v → u ≡ v
  runs_none u v a = ap₂ configured (sym a.1.1) (sym a.1.2)

  pub runs_nowhere : (u : Configured) → Runs u [] u
  runs_nowhere u = ([], (refl, refl, refl))

  -- the first step, and those after it
  pub runs_first : (u v : Configured) (x : PlainStep) (q : List PlainStep) → Runs u (x ∷ q) v → (w : Configured) × IsEdge token at u x w × Runs w q v
  runs_first u v x q a = (configured a.1.1 a.1.2, (a.1.0, a.1.4), (a.1.3, a.1.5))

  pub runs_on : (u w v : Configured) (x : PlainStep) (q : List PlainStep) → IsEdge token at u x w → Runs w q v → Runs u (x ∷ q) v
  runs_on u w v x q e b = (e.0 ++ b.0, (e.0, w.stack, w.place, b.0, e.1, b.1, refl))

  -- one step
  pub runs_by : (u v : Configured) (x : PlainStep) → IsEdge token at u x v → Runs u (x ∷ []) v
  runs_by u v x e = runs_on u v v x [] e (runs_nowhere v)

  pub edge_by : (u v : Configured) (x : PlainStep) → Runs u (x ∷ []) v → IsEdge token at u x v
  edge_by u v x a =
      let first = runs_first u v x [] a in
      subst (λ (w : Configured). IsEdge token at u x w) (runs_none first.0 v first.2) first.1

  -- two parts
  pub runs_joined : (u w v : Configured) (p q : List PlainStep) → Runs u p w → Runs w q v → Runs u (p ++ q) v
  runs_joined u w v p q a b =
      replays_joined token at.checked.grammar at.checked.table at.lexemes u.stack u.place p q a.0 w.stack w.place b.0 v.stack v.place a.1 b.1

  pub runs_parted : (u v : Configured) (p q : List PlainStep) → Runs u (p ++ q) v → (w : Configured) × Runs u p w × Runs w q v
  runs_parted u v p q a =
      let parts = replays_parted token at.checked.grammar at.checked.table at.lexemes u.stack u.place p q a.0 v.stack v.place a.1 in
      (configured parts.mid parts.place, (parts.first, parts.before), (parts.second, parts.further))

  -- if each step leads from one of them to one of them, they are all to which steps lead
  pub all_led_to : (Has : Configured → Type 0)
      → ((u : Configured) (x : PlainStep) (v : Configured) → Has u → IsEdge token at u x v → Has v)
      → (u v : Configured) (steps : List PlainStep) → Has u → Runs u steps v → Has v
  all_led_to Has closed u v [] known a = subst Has (runs_none u v a) known
  all_led_to Has closed u v (x ∷ steps) known a =
      let next = runs_first u v x steps a in
      all_led_to Has closed next.0 v steps (closed u x next.0 known next.1) next.2

module _ {X : Type 0} (token : X → ℕ) (costs : List ℕ) (at : Asked X) where
  -- what steps cost from u on
  abbrev pub cost_from : Configured → List PlainStep → ℕ
  cost_from u steps = steps_cost token at.checked.grammar at.lexemes costs u.place steps

  -- what two parts cost
  pub cost_joined : (u w : Configured) (p q : List PlainStep) → Runs token at u p w → cost_from u (p ++ q) ≡ cost_from u p + cost_from w q
  cost_joined u w p q a =
      let g = at.checked.grammar in
      let there = replays_place token g at.checked.table at.lexemes u.stack u.place p a.0 w.stack w.place a.1 in
      cost_append token g at.lexemes costs u.place p q
      ∙ ap (λ (m : ℕ). cost_from u p + steps_cost token g at.lexemes costs m q) (sym there)

  -- a last step
  pub cost_last : (u w : Configured) (p : List PlainStep) (x : PlainStep) → Runs token at u p w
      → cost_from u (p ++ x ∷ []) ≡ cost_from u p + edge_cost token costs at w x
  cost_last u w p x a = omega (arith, cost_joined u w p (x ∷ []) a)

  -- a first step
  pub cost_first : (u w : Configured) (x : PlainStep) (q : List PlainStep) → IsEdge token at u x w
      → cost_from u (x ∷ q) ≡ edge_cost token costs at u x + cost_from w q
  cost_first u w x q e = omega (arith, cost_joined u w (x ∷ []) q (runs_by token at u w x e))

  -- a configuration has at most one distance
  pub one_distance : (v : Configured) (d e : ℕ) → IsDistance token costs at v d → IsDistance token costs at v e → d ≡ e
  one_distance v d e a b = omega (arith, a.none b.some.0 b.some.1, b.none a.some.0 a.some.1, a.some.2, b.some.2)

  -- that of the error point is 0
  pub root_distance : IsDistance token costs at (root_of at) 0
  root_distance = record { some = ([], ([], (refl, refl, refl)), refl); none = λ steps there. omega arith }

  -- what has a distance below c is nearer than c
  pub distance_nearer : (c d : ℕ) (v : Configured) → IsDistance token costs at v d → d < c → IsNearer token costs at c v
  distance_nearer c d v far below = (far.some.0, far.some.1, omega (arith, far.some.2, below))

  pub nearer_distance : (c d : ℕ) (v : Configured) → IsDistance token costs at v d → IsNearer token costs at c v → d < c
  nearer_distance c d v far near = omega (arith, far.none near.0 near.1, near.2)

  -- A configuration to which steps lead has a distance. It isn't computed here: to have none is impossible.
  none_below : (v : Configured) → ¬ ((d : ℕ) × IsDistance token costs at v d) → (n : ℕ) (steps : List PlainStep) → LeadTo token at steps v
      → n ≤ cost_of token costs at steps
  none_below v none zero steps there = omega arith
  none_below v none (suc n) steps there =
      let more = none_below v none n in
      elim (compare n (cost_of token costs at steps)) as (λ _. suc n ≤ cost_of token costs at steps) [
        | inl below ↦ omega (arith, below)
        | inr other ↦ elim other as (λ _. suc n ≤ cost_of token costs at steps) [
          | inl same ↦ absurd (none (n, record { some = (steps, there, sym same); none = more }))
          | inr above ↦ absurd (omega (arith, above, more steps there))
        ]
      ]

  pub has_distance : (v : Configured) (steps : List PlainStep) → LeadTo token at steps v → ¬ (¬ ((d : ℕ) × IsDistance token costs at v d))
  has_distance v steps there none = absurd (omega (arith, none_below v none (cost_of token costs at steps + 1) steps there))

  -- a beginning of a cheapest sequence is a cheapest one
  pub beginning_is_cheapest : (u v : Configured) (p q : List PlainStep) → LeadTo token at p u → Runs token at u q v
      → IsDistance token costs at v (cost_of token costs at (p ++ q)) → IsDistance token costs at u (cost_of token costs at p)
  beginning_is_cheapest u v p q a b far =
      let root = root_of at in
      record {
        some = (p, a, refl);
        none = λ steps there.
            let whole = far.none (steps ++ q) (runs_joined token at root u v steps q there b) in
            omega (arith, whole, cost_joined root u steps q there, cost_joined root u p q a);
      }

  -- a step from a configuration: where it leads is no farther than both together
  pub edge_leads : (u v : Configured) (x : PlainStep) (d : ℕ) → IsDistance token costs at u d → IsEdge token at u x v
      → (steps : List PlainStep) × LeadTo token at steps v × (cost_of token costs at steps ≡ d + edge_cost token costs at u x)
  edge_leads u v x d far e =
      let root = root_of at in
      let p = far.some.0 in (
        p ++ x ∷ [],
        runs_joined token at root u v p (x ∷ []) far.some.1 (runs_by token at u v x e),
        omega (arith, cost_last root u p x far.some.1, far.some.2),
      )

  pub edge_bounds : (u v : Configured) (x : PlainStep) (d e : ℕ) → IsDistance token costs at u d → IsEdge token at u x v → IsDistance token costs at v e
      → e ≤ d + edge_cost token costs at u x
  edge_bounds u v x d e far edge there =
      let way = edge_leads u v x d far edge in
      omega (arith, there.none way.0 way.1, way.2)

  pub link_of : (u v : Configured) (x : PlainStep) (d e : ℕ) → IsEdge token at u x v → IsDistance token costs at u d → IsDistance token costs at v e
      → e ≡ d + edge_cost token costs at u x → IsLink token costs at u x v
  link_of u v x d e edge tail head sum =
      record { edge = edge; distance = d; tail = tail; head = subst (λ (n : ℕ). IsDistance token costs at v n) sum head }

  -- a step that makes c together with the distance of where it begins, to what isn't nearer than c: this is at distance c
  pub edge_to_new : (c : ℕ) (u v : Configured) (x : PlainStep) (d : ℕ) → IsDistance token costs at u d → IsEdge token at u x v
      → d + edge_cost token costs at u x ≡ c → ¬ (IsNearer token costs at c v) → IsDistance token costs at v c
  edge_to_new c u v x d far edge sum new =
      let way = edge_leads u v x d far edge in
      record {
        some = (way.0, way.1, way.2 ∙ sum);
        none = λ steps there.
            elim (compare (cost_of token costs at steps) c) as (λ _. c ≤ cost_of token costs at steps) [
              | inl below ↦ absurd (new (steps, there, below))
              | inr other ↦ elim other as (λ _. c ≤ cost_of token costs at steps) [ inl same ↦ omega (arith, same) | inr above ↦ omega (arith, above) ]
            ];
      }

  -- the steps of a cheapest sequence are links
  pub cheapest_are_links : (c : ℕ) (u v : Configured) (p q : List PlainStep) → LeadTo token at p u → Runs token at u q v
      → IsDistance token costs at v (cost_of token costs at (p ++ q))
      → ((before : List PlainStep) (x : PlainStep) (after : List PlainStep) → p ++ q ≡ before ++ x ∷ after → cost_of token costs at before < c)
      → IsLinkPath token costs at c u q v
  cheapest_are_links c u v p [] a b far early = runs_none token at u v b
  cheapest_are_links c u v p (x ∷ q) a b far early =
      let root = root_of at in
      let next = runs_first token at u v x q b in
      let w = next.0 in
      let whole : (p ++ x ∷ []) ++ q ≡ p ++ x ∷ q = append_assoc p (x ∷ []) q in
      let further = runs_joined token at root u w p (x ∷ []) a (runs_by token at u w x next.1) in
      let farther = subst (λ (l : List PlainStep). IsDistance token costs at v (cost_of token costs at l)) (sym whole) far in
      let head = beginning_is_cheapest w v (p ++ x ∷ []) q further next.2 farther in
      let sum = cost_last root u p x a in (
        w,
        record {
          edge = next.1;
          distance = cost_of token costs at p;
          tail = beginning_is_cheapest u v p (x ∷ q) a b far;
          head = subst (λ (n : ℕ). IsDistance token costs at w n) sum head;
        },
        (p, a, early p x q refl),
        cheapest_are_links c w v (p ++ x ∷ []) q further next.2 farther (λ before y after e. early before y after (sym whole ∙ e)),
      )

  -- Configurations with costs, of which the error point has 0, and of which each step that costs less than c in all leads to one that
  -- costs no more.
  module _ (Has : Configured → ℕ → Type 0) (c : ℕ) (begins : Has (root_of at) 0)
      (closed : (u : Configured) (d : ℕ) (x : PlainStep) (v : Configured) → Has u d → IsEdge token at u x v → d + edge_cost token costs at u x < c
      → (e : ℕ) × Has v e × (e ≤ d + edge_cost token costs at u x)) where
    has_after : (u v : Configured) (d : ℕ) (steps : List PlainStep) → Has u d → Runs token at u steps v → d + cost_from u steps < c
        → (e : ℕ) × Has v e × (e ≤ d + cost_from u steps)
    has_after u v d [] known a below = (d, subst (λ (w : Configured). Has w d) (runs_none token at u v a) known, omega arith)
    has_after u v d (x ∷ steps) known a below =
        let next = runs_first token at u v x steps a in
        let sum = cost_first u next.0 x steps next.1 in
        let one = closed u d x next.0 known next.1 (omega (arith, sum, below)) in
        let rest = has_after next.0 v one.0 steps one.1 next.2 (omega (arith, sum, below, one.2)) in
        (rest.0, rest.1, omega (arith, rest.2, sum, one.2))

    -- these are all that are nearer than c
    pub all_nearer : (v : Configured) → (near : IsNearer token costs at c v) → (e : ℕ) × Has v e × (e ≤ cost_of token costs at near.0)
    all_nearer v near =
        let known = has_after (root_of at) v 0 near.0 begins near.1 (omega (arith, near.2)) in
        (known.0, known.1, omega (arith, known.2))
