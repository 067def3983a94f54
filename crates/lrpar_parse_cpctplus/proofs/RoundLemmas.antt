-- The rounds of a search: what is known at the head of round c are the configurations nearer than c, at their distances. A round adds
-- those at distance c, of which the steps other than Shifts come from what is known, and then those to which Shifts lead.
use Rattle.std.proofs.Common.{◌≡◌, ◌≢◌, ◌<◌, ◌≤◌, ◌+◌, ◌⊎◌, inl, inr, ℕ, List, [], refl, sym, subst, arith}
use Rattle.lrpar_parse_repair.specs.Asked.{Asked, IsStop}
use Rattle.lrpar_parse_repair.specs.Sequences.{PlainStep, PlainInsert, PlainDelete, PlainShift}
use Rattle.lrpar_table_stacks.specs.Run.{token_at}
use Rattle.lrpar_parse_cpctplus.specs.AnyForm.{WorksAt}
use Rattle.lrpar_parse_cpctplus.specs.LinkPaths.{IsLastStep, IsLink}
use Rattle.lrpar_parse_cpctplus.specs.Configurations.{Configured, IsDistance, IsEdge, IsNearer, LeadTo, edge_cost, root_of}
use Rattle.lrpar_parse_cpctplus.specs.Costs.{AreCosts, token_cost}
use Rattle.lrpar_parse_cpctplus.proofs.ChainLemmas.{CostAtLeast, moves_cost, nearer_stops, works_leads_to}
use Rattle.lrpar_parse_cpctplus.proofs.DistanceLemmas.{all_led_to, all_nearer, compare, distance_nearer, edge_bounds, edge_leads, one_distance, root_distance, runs_nowhere}
use Rattle.lrpar_parse_cpctplus.proofs.LastStepLemmas.{none_at, none_below_zero}
use Rattle.lrpar_parse_cpctplus.proofs.PruneLemmas.{nothing_fed}

-- a step is a Shift, or it isn't
pub shift_or_not : (x : PlainStep) → (x ≡ PlainShift) ⊎ (x ≢ PlainShift)
shift_or_not (PlainInsert t) = inr (λ e. cc)
shift_or_not PlainDelete = inr (λ e. cc)
shift_or_not PlainShift = inl refl

module _ {X : Type 0} (token : X → ℕ) (costs : List ℕ) (at : Asked X) where
  -- What is known, each with a number: these are the configurations nearer than c, and their distances.
  pub record KnowsNearer (Known : Configured → ℕ → Type 0) (c : ℕ) : Type 0 where
    pub each : (v : Configured) (d : ℕ) → Known v d → IsDistance token costs at v d × (d < c)
    pub all : (v : Configured) → IsNearer token costs at c v → (d : ℕ) × Known v d

  -- where a step leads is nearer than c, if it costs less than c in all
  pub edge_nearer : (c : ℕ) (u v : Configured) (x : PlainStep) (d : ℕ) → IsDistance token costs at u d → IsEdge token at u x v
      → d + edge_cost token costs at u x < c → IsNearer token costs at c v
  edge_nearer c u v x d far edge below =
      let way = edge_leads token costs at u v x d far edge in
      (way.0, way.1, omega (arith, way.2, below))

  -- what is closed under the steps that cost less than c
  pub knows_by_closure : (Known : Configured → ℕ → Type 0) (c : ℕ) → Known (root_of at) 0
      → ((v : Configured) (d : ℕ) → Known v d → IsDistance token costs at v d × (d < c))
      → ((u : Configured) (d : ℕ) (x : PlainStep) (v : Configured) → Known u d → IsEdge token at u x v → d + edge_cost token costs at u x < c → (e : ℕ) × Known v e)
      → KnowsNearer Known c
  knows_by_closure Known c begins each closed = record {
    each = each;
    all = λ v near.
        let known = all_nearer token costs at Known c begins (λ u d x w k edge below.
        let next = closed u d x w k edge below in
        (next.0, next.1, edge_bounds token costs at u w x d next.0 (each u d k).0 edge (each w next.0 next.1).0)) v near in
        (known.0, known.1);
  }

  -- Before the first round the error point is known: all that is nearer than 1, since nothing can be shifted there.
  pub knows_root : IsStop token at → AreCosts costs → KnowsNearer (λ v d. (root_of at ≡ v) × (d ≡ 0)) 1
  knows_root stop each_costs =
      let root = root_of at in
      let each : (v : Configured) (d : ℕ) → (root ≡ v) × (d ≡ 0) → IsDistance token costs at v d × (d < 1) = λ v d h. (
        subst (λ (w : Configured). IsDistance token costs at w d) h.0
            (subst (λ (n : ℕ). IsDistance token costs at root n) (sym h.1) (root_distance token costs at)),
        omega (arith, h.1),
      ) in
      knows_by_closure (λ v d. (root ≡ v) × (d ≡ 0)) 1 (refl, refl) each (λ u d x v h edge below.
      elim (shift_or_not x) as (λ _. (e : ℕ) × ((root ≡ v) × (e ≡ 0))) [
        | inl shift ↦ absurd (root_shifts_not stop v (subst (λ (w : Configured). IsEdge token at w PlainShift v) (sym h.0)
            (subst (λ (y : PlainStep). IsEdge token at u y v) shift edge)))
        | inr move ↦ let some = moves_cost token costs at each_costs u x move in absurd (omega (arith, some, below))
      ])
    where
      root_shifts_not : IsStop token at → (v : Configured) → ¬ (IsEdge token at (root_of at) PlainShift v)
      root_shifts_not stop v edge =
          nothing_fed at.checked.grammar at.checked.table (token_at token at.checked.grammar at.lexemes at.place) at.stack edge.0 v.stack stop.fails edge.1.1

  -- and no sequence works that costs less than 1
  pub one_at_least : IsStop token at → AreCosts costs → CostAtLeast token costs at 1
  one_at_least stop each =
      none_at token costs at 0 stop (none_below_zero token costs at) (λ u x v last.
      let some = moves_cost token costs at each u x last.other in omega (arith, some, last.sum))

  -- Round c: what was known stays; what is added is at distance c; it has where the steps other than Shifts lead that make c, and where
  -- the Shifts lead from what is at distance c.
  pub knows_more : (Old New : Configured → ℕ → Type 0) (c : ℕ) → AreCosts costs → 0 < c → KnowsNearer Old c
      → ((v : Configured) (d : ℕ) → Old v d → New v d)
      → ((v : Configured) (d : ℕ) → New v d → IsDistance token costs at v d × (d < c + 1))
      → ((u : Configured) (d : ℕ) (x : PlainStep) (v : Configured) → Old u d → x ≢ PlainShift → IsEdge token at u x v
      → d + edge_cost token costs at u x ≡ c → (e : ℕ) × New v e)
      → ((u v : Configured) → New u c → IsEdge token at u PlainShift v → (e : ℕ) × New v e)
      → KnowsNearer New (c + 1)
  knows_more Old New c each_costs some old keeps each moves shifts =
      let root = root_of at in
      let begins : Old root 0 =
      let first = old.all root ([], runs_nowhere token at root, some) in
      subst (λ (n : ℕ). Old root n) (one_distance token costs at root first.0 0 (old.each root first.0 first.1).0 (root_distance token costs at)) first.1 in
      let nearer : (u v : Configured) (d : ℕ) (x : PlainStep) → IsDistance token costs at u d → IsEdge token at u x v → d + edge_cost token costs at u x < c
      → (e : ℕ) × New v e = λ u v d x far edge below.
      let known = old.all v (edge_nearer c u v x d far edge below) in (known.0, keeps v known.0 known.1) in
      knows_by_closure New (c + 1) (keeps root 0 begins) each (λ u d x v known edge below.
      let far = (each u d known).0 in
      elim (compare (d + edge_cost token costs at u x) c) as (λ _. (e : ℕ) × New v e) [
        | inl less ↦ nearer u v d x far edge less
        | inr other ↦ elim other as (λ _. (e : ℕ) × New v e) [
          | inl sum ↦ elim (shift_or_not x) as (λ _. (e : ℕ) × New v e) [
            | inl shift ↦
                let same = subst (λ (y : PlainStep). d + edge_cost token costs at u y ≡ c) shift sum in
                let at_c : d ≡ c = omega (arith, same) in
                shifts u v (subst (λ (n : ℕ). New u n) at_c known) (subst (λ (y : PlainStep). IsEdge token at u y v) shift edge)
            | inr move ↦
                let costs_some = moves_cost token costs at each_costs u x move in
                let there = old.all u (distance_nearer token costs at c d u far (omega (arith, sum, costs_some))) in
                let same = one_distance token costs at u there.0 d (old.each u there.0 there.1).0 far in
                moves u d x v (subst (λ (n : ℕ). Old u n) same there.1) move edge sum
          ]
          | inr above ↦ absurd (omega (arith, above, below))
        ]
      ])

  -- the links of what is known come from what is known
  pub links_known : (Known : Configured → ℕ → Type 0) (c : ℕ) → KnowsNearer Known c → (u v : Configured) (x : PlainStep) (e : ℕ) → Known v e
      → IsLink token costs at u x v → (d : ℕ) × Known u d × (e ≡ d + edge_cost token costs at u x)
  links_known Known c knows u v x e known link =
      let there = knows.each v e known in
      let same = one_distance token costs at v (link.distance + edge_cost token costs at u x) e link.head there.0 in
      let tail = knows.all u (distance_nearer token costs at c link.distance u link.tail (omega (arith, same, there.1))) in
      let one = one_distance token costs at u tail.0 link.distance (knows.each u tail.0 tail.1).0 link.tail in
      (tail.0, tail.1, omega (arith, one, same))

  -- and so do the last steps at c
  pub lasts_known : (Known : Configured → ℕ → Type 0) (c : ℕ) → AreCosts costs → KnowsNearer Known c → (u : Configured) (x : PlainStep) (v : Configured)
      → IsLastStep token costs at c u x v → (d : ℕ) × Known u d × (d + edge_cost token costs at u x ≡ c)
  lasts_known Known c each knows u x v last =
      let some = moves_cost token costs at each u x last.other in
      let tail = knows.all u (distance_nearer token costs at c last.distance u last.tail (omega (arith, some, last.sum))) in
      let one = one_distance token costs at u tail.0 last.distance (knows.each u tail.0 tail.1).0 last.tail in
      (tail.0, tail.1, omega (arith, one, last.sum))

  -- If no step costs more than `dearest`, and what is nearer than c + 1 is nearer than that by `dearest`, there is nothing farther.
  edge_cost_most : (dearest : ℕ) → ((t : ℕ) → token_cost costs t ≤ dearest) → (u : Configured) (x : PlainStep) → edge_cost token costs at u x ≤ dearest
  edge_cost_most dearest most u (PlainInsert t) = most t
  edge_cost_most dearest most u PlainDelete = most (token_at token at.checked.grammar at.lexemes u.place)
  edge_cost_most dearest most u PlainShift = omega arith

  pub nothing_farther : (c dearest : ℕ) → ((t : ℕ) → token_cost costs t ≤ dearest)
      → ((v : Configured) → IsNearer token costs at (c + 1) v → (d : ℕ) × IsDistance token costs at v d × (d + dearest ≤ c))
      → (v : Configured) (steps : List PlainStep) → LeadTo token at steps v → IsNearer token costs at (c + 1) v
  nothing_farther c dearest most near v steps there =
      let root = root_of at in
      all_led_to token at (IsNearer token costs at (c + 1)) (λ u x w here edge.
      let far = near u here in
      edge_nearer (c + 1) u w x far.0 far.1 edge (omega (arith, edge_cost_most dearest most u x, far.2)))
      root v steps ([], runs_nowhere token at root, omega arith) there

  -- so no sequence works, if none works that costs less than c + 1
  pub nothing_works : (c dearest : ℕ) → ((t : ℕ) → token_cost costs t ≤ dearest)
      → ((v : Configured) → IsNearer token costs at (c + 1) v → (d : ℕ) × IsDistance token costs at v d × (d + dearest ≤ c))
      → CostAtLeast token costs at (c + 1) → (steps : List PlainStep) → ¬ (WorksAt token at steps)
  nothing_works c dearest most near least steps works =
      let way = works_leads_to token at steps works in
      nearer_stops token costs at (c + 1) way.0 least (nothing_farther c dearest most near way.0 steps way.1) way.2
