-- The least cost of a repair, by its last step: the search tries these, and needs no more to know that cost and the ends.
use Rattle.std.proofs.Common.{◌≡◌, ◌≢◌, ◌≤◌, ◌+◌, ◌∙◌, ◌⊎◌, inl, inr, ℕ, List, [], ◌∷◌, ◌++◌, refl, sym, subst, ap, arith, replicate, zero, suc}
use Rattle.lrpar_parse_repair.specs.Asked.{Asked, IsStop}
use Rattle.lrpar_parse_repair.specs.Sequences.{PlainStep, PlainShift}
use Rattle.lrpar_parse_cpctplus.specs.AnyForm.{WorksAt}
use Rattle.lrpar_parse_cpctplus.specs.LinkPaths.{IsLinkPath, IsEnd, IsLastStep, IsLeastLastCost, IsLink, LastStepsAreLinks, LeastCostByLastSteps}
use Rattle.lrpar_parse_cpctplus.specs.Cheapest.{IsLeastCost, IsRepair, RepairsAt, cost_of}
use Rattle.lrpar_parse_cpctplus.specs.Configurations.{Configured, GoesOnFrom, IsDistance, IsEdge, IsNearer, LeadTo, edge_cost, root_of}
use Rattle.lrpar_parse_cpctplus.specs.Costs.{AreCosts, steps_cost}
use Rattle.lrpar_parse_cpctplus.proofs.AnyFormLemmas.{have_repairs}
use Rattle.lrpar_parse_cpctplus.proofs.ChainLemmas.{CostAtLeast, least_cost, moves_cost, near_link_moves, some_steps, works_far, works_leads_to, works_to}
use Rattle.lrpar_parse_cpctplus.proofs.DistanceLemmas.{Runs, at_most, beginning_is_cheapest, cheapest_are_links, compare, cost_joined, cost_last, edge_by, edge_leads, has_distance, one_distance, runs_by, runs_first, runs_joined, runs_none, runs_parted}
use Rattle.lrpar_parse_cpctplus.proofs.FormLemmas.{last_view}
use Rattle.lrpar_parse_cpctplus.proofs.LeadLemmas.{cost_begins}
use Rattle.lrpar_parse_cpctplus.proofs.PruneLemmas.{nothing_fed, strip}

module _ {X : Type 0} (token : X → ℕ) (at : Asked X) where
  -- the last step of a repair, which is no Shift
  pub record Finished (steps : List PlainStep) : Type 0 where
    pub before : List PlainStep
    pub tail : Configured
    pub step : PlainStep
    pub head : Configured
    pub is : steps ≡ before ++ step ∷ []
    pub other : step ≢ PlainShift
    pub leads : LeadTo token at before tail
    pub edge : IsEdge token at tail step head
    pub goes_on : GoesOnFrom token at head

  pub finished : IsStop token at → (steps : List PlainStep) → IsRepair token at steps → Finished steps
  finished stop steps repair =
      let some = some_steps token at stop steps repair.works in
      let way = works_leads_to token at steps repair.works in
      let v = way.0 in
      let parts = runs_parted token at (root_of at) v some.0 (some.1 ∷ [])
      (subst (λ (l : List PlainStep). Runs token at (root_of at) l v) some.2 way.1) in
      record {
        before = some.0;
        tail = parts.0;
        step = some.1;
        head = v;
        is = some.2;
        other = λ shift. repair.printed.last (some.0, some.2 ∙ ap (λ (y : PlainStep). some.0 ++ y ∷ []) shift);
        leads = parts.1;
        edge = edge_by token at parts.0 v some.1 parts.2;
        goes_on = way.2;
      }

module _ {X : Type 0} (token : X → ℕ) (costs : List ℕ) (at : Asked X) where
  -- what a repair costs, by its last step
  finished_cost : (steps : List PlainStep) (f : Finished token at steps)
      → cost_of token costs at steps ≡ cost_of token costs at f.before + edge_cost token costs at f.tail f.step
  finished_cost steps f =
      ap (λ (l : List PlainStep). cost_of token costs at l) f.is ∙ cost_last token costs at (root_of at) f.tail f.before f.step f.leads

  -- a last step: the sequence works
  last_works : (c : ℕ) (u : Configured) (x : PlainStep) (v : Configured) → IsLastStep token costs at c u x v
      → (steps : List PlainStep) × LeadTo token at steps v × WorksAt token at steps × (cost_of token costs at steps ≡ c)
  last_works c u x v h =
      let way = edge_leads token costs at u v x h.distance h.tail h.edge in
      (way.0, way.1, works_to token at way.0 v way.1 h.goes_on, way.2 ∙ h.sum)

  -- a repair that costs c, if no sequence that works costs less, has a last step at c
  pub repair_has_last : (c : ℕ) → IsStop token at → CostAtLeast token costs at c → (steps : List PlainStep) → RepairsAt token costs at c steps
      → (u : Configured) × (x : PlainStep) × (v : Configured) × IsLastStep token costs at c u x v
  repair_has_last c stop least steps h =
      let f = finished token at stop steps h.0 in
      let root = root_of at in
      let edge = runs_by token at f.tail f.head f.step f.edge in
      let there = runs_joined token at root f.tail f.head f.before (f.step ∷ []) f.leads edge in
      let same : cost_of token costs at (f.before ++ f.step ∷ []) ≡ c = ap (λ (l : List PlainStep). cost_of token costs at l) (sym f.is) ∙ h.1 in
      let far = works_far token costs at c (f.before ++ f.step ∷ []) f.head least there f.goes_on same in
      let tail = beginning_is_cheapest token costs at f.tail f.head f.before (f.step ∷ []) f.leads edge
      (subst (λ (n : ℕ). IsDistance token costs at f.head n) (sym same) far) in (
        f.tail,
        f.step,
        f.head,
        record {
          edge = f.edge;
          other = f.other;
          distance = cost_of token costs at f.before;
          tail = tail;
          sum = sym (finished_cost steps f) ∙ h.1;
          goes_on = f.goes_on;
        },
      )

  -- a last step at c: if no sequence that works costs less, c is the least cost of a repair
  pub last_is_least : (c : ℕ) → CostAtLeast token costs at c → (u : Configured) (x : PlainStep) (v : Configured) → IsLastStep token costs at c u x v
      → IsLeastCost token costs at c
  last_is_least c least u x v h =
      let way = last_works c u x v h in
      let repair = have_repairs token costs at way.0 way.2 in
      record {
        some = (repair.0, (repair.1, omega (arith, repair.2, way.3, least repair.0 repair.1.works)));
        none = λ steps r. least steps r.works;
      }

  -- no last step at c: then no sequence that works costs c
  pub none_at : (c : ℕ) → IsStop token at → CostAtLeast token costs at c
      → ((u : Configured) (x : PlainStep) (v : Configured) → ¬ (IsLastStep token costs at c u x v)) → CostAtLeast token costs at (c + 1)
  none_at c stop least none steps h =
      let repair = have_repairs token costs at steps h in
      let above = least repair.0 repair.1.works in
      elim (compare c (cost_of token costs at repair.0)) as (λ _. c + 1 ≤ cost_of token costs at steps) [
        | inl below ↦ omega (arith, below, repair.2)
        | inr other ↦ elim other as (λ _. c + 1 ≤ cost_of token costs at steps) [
          | inl same ↦
              let last = repair_has_last c stop least repair.0 (repair.1, sym same) in
              absurd (none last.0 last.1 last.2 last.3)
          | inr over ↦ absurd (omega (arith, over, above))
        ]
      ]

  -- nothing costs less than 0
  pub none_below_zero : CostAtLeast token costs at 0
  none_below_zero steps h = omega arith

  pub least_is_last : (c : ℕ) → IsStop token at → IsLeastCost token costs at c → IsLeastLastCost token costs at c
  least_is_last c stop least = record {
    some = repair_has_last c stop (least_cost token costs at c least) least.some.0 least.some.1;
    none = λ d u x v h.
        let way = last_works d u x v h in
        omega (arith, least_cost token costs at c least way.0 way.2, way.3);
  }

  pub last_of_least : (c : ℕ) → IsStop token at → IsLeastLastCost token costs at c → IsLeastCost token costs at c
  last_of_least c stop least =
      let none : (steps : List PlainStep) → IsRepair token at steps → c ≤ cost_of token costs at steps = λ steps repair.
      let f = finished token at stop steps repair in
      at_most c (cost_of token costs at steps) (λ not.
      has_distance token costs at f.tail f.before f.leads (λ far.
      not (omega (
        arith,
        least.none (far.0 + edge_cost token costs at f.tail f.step) f.tail f.step f.head
            (record { edge = f.edge; other = f.other; distance = far.0; tail = far.1; sum = refl; goes_on = f.goes_on }),
        far.1.none f.before f.leads,
        finished_cost steps f,
      )))) in
      let way = last_works c least.some.0 least.some.1 least.some.2 least.some.3 in
      let repair = have_repairs token costs at way.0 way.2 in
      record { some = (repair.0, (repair.1, omega (arith, repair.2, way.3, none repair.0 repair.1))); none = none }

  -- the last steps are the links of ends whose tails are nearer
  pub last_is_link : (c : ℕ) → AreCosts costs → CostAtLeast token costs at c → (u : Configured) (x : PlainStep) (v : Configured)
      → IsLastStep token costs at c u x v → IsEnd token costs at c v × IsLink token costs at u x v × IsNearer token costs at c u
  last_is_link c each least u x v h =
      let way = last_works c u x v h in
      let far = works_far token costs at c way.0 v least way.1 h.goes_on way.3 in
      let link : IsLink token costs at u x v =
      record { edge = h.edge; distance = h.distance; tail = h.tail; head = subst (λ (n : ℕ). IsDistance token costs at v n) (sym h.sum) far } in
      let some = moves_cost token costs at each u x h.other in
      let near : IsNearer token costs at c u = (h.tail.some.0, h.tail.some.1, omega (arith, h.tail.some.2, h.sum, some)) in
      (record { distance = far; goes_on = h.goes_on; link = (u, x, link, near) }, link, near)

  pub link_is_last : (c : ℕ) (u : Configured) (x : PlainStep) (v : Configured) → IsEnd token costs at c v → IsLink token costs at u x v
      → IsNearer token costs at c u → IsLastStep token costs at c u x v
  link_is_last c u x v end link near = record {
    edge = link.edge;
    other = near_link_moves token costs at c u v x link end.distance near;
    distance = link.distance;
    tail = link.tail;
    sum = one_distance token costs at v (link.distance + edge_cost token costs at u x) c link.head end.distance;
    goes_on = end.goes_on;
  }

  -- Where a cheapest sequence that leads to v comes from: its last step that is no Shift is a link, and so are the Shifts after it.
  pub record CameBy (v : Configured) (c : ℕ) : Type 0 where
    pub tail : Configured
    pub step : PlainStep
    pub head : Configured
    pub count : ℕ
    pub other : step ≢ PlainShift
    pub link : IsLink token costs at tail step head
    pub far : IsDistance token costs at head c
    pub shifts : IsLinkPath token costs at (c + 1) head (replicate count PlainShift) v

  -- at the error point nothing can be shifted
  no_shifts : IsStop token at → (count : ℕ) (v : Configured) → Runs token at (root_of at) (replicate count PlainShift) v → root_of at ≡ v
  no_shifts stop zero v a = runs_none token at (root_of at) v a
  no_shifts stop (suc count) v a =
      let first = runs_first token at (root_of at) v PlainShift (replicate count PlainShift) a in
      absurd (nothing_fed at.checked.grammar at.checked.table _ at.stack first.1.0 first.0.stack stop.fails first.1.1.1)

  shifts_cost : (i count : ℕ) → steps_cost token at.checked.grammar at.lexemes costs i (replicate count PlainShift) ≡ 0
  shifts_cost i zero = refl
  shifts_cost i (suc count) = omega (arith, shifts_cost (i + 1) count)

  -- the part before the Shifts ends in a step
  by_last : (v : Configured) (c : ℕ) → IsDistance token costs at v c → (rest : List PlainStep) (count : ℕ) (w : Configured) (p : List PlainStep) (x : PlainStep)
      → LeadTo token at rest w → Runs token at w (replicate count PlainShift) v → cost_of token costs at (rest ++ replicate count PlainShift) ≡ c
      → rest ≡ p ++ x ∷ [] → x ≢ PlainShift → CameBy v c
  by_last v c far rest count w p x a b costs_c e other =
      let root = root_of at in
      let row = replicate count PlainShift in
      let back = runs_parted token at root w p (x ∷ []) (subst (λ (l : List PlainStep). Runs token at root l w) e a) in
      let u = back.0 in
      let whole = subst (λ (n : ℕ). IsDistance token costs at v n) (sym costs_c) far in
      let head = beginning_is_cheapest token costs at w v rest row a b whole in
      let same : cost_of token costs at rest ≡ cost_of token costs at (p ++ x ∷ []) = ap (λ (l : List PlainStep). cost_of token costs at l) e in
      let there = subst (λ (n : ℕ). IsDistance token costs at w n) same head in
      let sum = cost_last token costs at root u p x back.1 in
      let none = shifts_cost w.place count in
      let joined = cost_joined token costs at root w rest row a in
      let all : cost_of token costs at rest ≡ c = omega (arith, joined, none, costs_c) in
      record {
        tail = u;
        step = x;
        head = w;
        count = count;
        other = other;
        link = record {
          edge = edge_by token at u w x back.2;
          distance = cost_of token costs at p;
          tail = beginning_is_cheapest token costs at u w p (x ∷ []) back.1 back.2 there;
          head = subst (λ (n : ℕ). IsDistance token costs at w n) sum there;
        };
        far = subst (λ (n : ℕ). IsDistance token costs at w n) all head;
        shifts = cheapest_are_links token costs at (c + 1) w v rest row a b whole (λ before y after is.
            let less = cost_begins token at.checked.grammar at.lexemes costs at.place before (y ∷ after) in
            let equal : cost_of token costs at (rest ++ row) ≡ cost_of token costs at (before ++ y ∷ after) = ap (λ (l : List PlainStep). cost_of token costs at l) is in
            omega (arith, less, equal, costs_c));
      }

  pub came_by : IsStop token at → (v : Configured) (c : ℕ) → IsDistance token costs at v c → (root_of at ≡ v) ⊎ CameBy v c
  came_by stop v c far =
      let root = root_of at in
      let steps = far.some.0 in
      let s = strip steps in
      let row = replicate s.count PlainShift in
      let parts = runs_parted token at root v s.rest row (subst (λ (l : List PlainStep). Runs token at root l v) s.is far.some.1) in
      let costs_c : cost_of token costs at (s.rest ++ row) ≡ c = ap (λ (l : List PlainStep). cost_of token costs at l) (sym s.is) ∙ far.some.2 in
      elim (last_view s.rest) as (λ _. (root_of at ≡ v) ⊎ CameBy v c) [
        | inl none ↦
            let there = runs_none token at root parts.0 (subst (λ (l : List PlainStep). Runs token at root l parts.0) none parts.1) in
            inl (no_shifts stop s.count v (subst (λ (u : Configured). Runs token at u row v) (sym there) parts.2))
        | inr last ↦
            let other : last.1 ≢ PlainShift = λ shift. s.last (last.0, last.2 ∙ ap (λ (y : PlainStep). last.0 ++ y ∷ []) shift) in
            inr (by_last v c far s.rest s.count parts.0 last.0 last.1 parts.1 parts.2 costs_c last.2 other)
      ]

pub least_cost_by_last_steps : {X : Type 0} → LeastCostByLastSteps X
least_cost_by_last_steps token costs at c stop = (least_is_last token costs at c stop, last_of_least token costs at c stop)

pub last_steps_are_links : {X : Type 0} → LastStepsAreLinks X
last_steps_are_links token costs at c each least u x v = (
  last_is_link token costs at c each (least_cost token costs at c least) u x v,
  (λ h. link_is_last token costs at c u x v h.0 h.1 h.2),
)
