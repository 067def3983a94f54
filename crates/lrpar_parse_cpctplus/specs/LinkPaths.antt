-- The graph of configurations: each repair of least cost is a chain of links from the error point to an end.
use Rattle.std.specs.Prelude.{◌≡◌, ◌≢◌, ◌≤◌, ◌+◌, ◌↔◌, ℕ, List, [], ◌∷◌}
use Rattle.lrpar_grammar.specs.Grammar.{end_token}
use Rattle.lrpar_parse_repair.specs.Asked.{Asked, IsStop}
use Rattle.lrpar_parse_repair.specs.Sequences.{PlainStep, PlainShift}
use Rattle.lrpar_parse_cpctplus.specs.Cheapest.{IsLeastCost, RepairsAt}
use Rattle.lrpar_parse_cpctplus.specs.Configurations.{Configured, GoesOnFrom, IsDistance, IsEdge, IsNearer, LeadTo, edge_cost, root_of}
use Rattle.lrpar_parse_cpctplus.specs.Costs.{AreCosts}
use Rattle.lrpar_parse_cpctplus.specs.Forms.{IsFormed}

module _ {X : Type 0} (token : X → ℕ) (costs : List ℕ) (at : Asked X) where
  -- a link: a step from u, its tail, to v, its head, that costs as much as the head is farther than the tail
  pub record IsLink (u : Configured) (step : PlainStep) (v : Configured) : Type 0 where
    pub edge : IsEdge token at u step v
    pub distance : ℕ
    pub tail : IsDistance token costs at u distance
    pub head : IsDistance token costs at v (distance + edge_cost token costs at u step)

  -- a chain: the steps lead from u to v, each by a link whose tail is nearer than c
  abbrev pub IsLinkPath : ℕ → Configured → List PlainStep → Configured → Type 0
  IsLinkPath c u [] v = u ≡ v
  IsLinkPath c u (step ∷ steps) v = (next : Configured) × IsLink u step next × IsNearer token costs at c u × IsLinkPath c next steps v

  -- an end: a configuration at distance c from which a parse can go on, and which is the head of a link whose tail is nearer than c
  pub record IsEnd (c : ℕ) (v : Configured) : Type 0 where
    pub distance : IsDistance token costs at v c
    pub goes_on : GoesOnFrom token at v
    pub link : (u : Configured) × (step : PlainStep) × IsLink u step v × IsNearer token costs at c u

  -- a well-formed chain from the error point to an end
  pub record IsPathToEnd (c : ℕ) (steps : List PlainStep) : Type 0 where
    pub formed : IsFormed (end_token at.checked.grammar) steps
    pub end : Configured
    pub ends : IsEnd c end
    pub chain : IsLinkPath c (root_of at) steps end

  -- a last step at c: a step from u to v, other than a Shift, whose cost and the distance of u make c, and a parse can go on from v
  pub record IsLastStep (c : ℕ) (u : Configured) (step : PlainStep) (v : Configured) : Type 0 where
    pub edge : IsEdge token at u step v
    pub other : step ≢ PlainShift
    pub distance : ℕ
    pub tail : IsDistance token costs at u distance
    pub sum : distance + edge_cost token costs at u step ≡ c
    pub goes_on : GoesOnFrom token at v

  -- c is the least cost at which there is a last step
  pub record IsLeastLastCost (c : ℕ) : Type 0 where
    pub some : (u : Configured) × (step : PlainStep) × (v : Configured) × IsLastStep c u step v
    pub none : (d : ℕ) (u : Configured) (step : PlainStep) (v : Configured) → IsLastStep d u step v → c ≤ d

-- the repairs of least cost are the well-formed chains to ends
abbrev pub RepairsArePaths : Type 0 → Type 0
RepairsArePaths X =
    (token : X → ℕ) (costs : List ℕ) (at : Asked X) (c : ℕ) → IsStop token at → AreCosts costs → IsLeastCost token costs at c
    → (steps : List PlainStep) → RepairsAt token costs at c steps ↔ IsPathToEnd token costs at c steps

-- each end is that of a repair
abbrev pub EndsHaveRepairs : Type 0 → Type 0
EndsHaveRepairs X =
    (token : X → ℕ) (costs : List ℕ) (at : Asked X) (c : ℕ) (v : Configured) → IsEnd token costs at c v
    → (steps : List PlainStep) × RepairsAt token costs at c steps × LeadTo token at steps v

-- the least cost of a repair is the least one at which there is a last step
abbrev pub LeastCostByLastSteps : Type 0 → Type 0
LeastCostByLastSteps X =
    (token : X → ℕ) (costs : List ℕ) (at : Asked X) (c : ℕ) → IsStop token at → IsLeastCost token costs at c ↔ IsLeastLastCost token costs at c

-- the last steps at the least cost of a repair are the links to ends whose tails are nearer than that
abbrev pub LastStepsAreLinks : Type 0 → Type 0
LastStepsAreLinks X =
    (token : X → ℕ) (costs : List ℕ) (at : Asked X) (c : ℕ) → AreCosts costs → IsLeastCost token costs at c
    → (u : Configured) (step : PlainStep) (v : Configured)
    → IsLastStep token costs at c u step v ↔ (IsEnd token costs at c v × IsLink token costs at u step v × IsNearer token costs at c u)
