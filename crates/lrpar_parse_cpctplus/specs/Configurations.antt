-- The configurations that sequences lead to from an error point, and how far they are from it.
use Rattle.std.specs.Prelude.{◌≡◌, ◌<◌, ◌≤◌, ℕ, List}
use Rattle.lrpar_parse_repair.specs.Asked.{Asked}
use Rattle.lrpar_parse_repair.specs.Sequences.{PlainStep, CanGoOn, StepsTo}
use Rattle.lrpar_parse_cpctplus.specs.Cheapest.{LeadsTo, cost_of}
use Rattle.lrpar_parse_cpctplus.specs.Costs.{step_cost}

-- a configuration: a stack and a place among the lexemes
pub record Configured : Type 0 where
  pub stack : List ℕ
  pub place : ℕ

-- the configuration at the error point
abbrev pub root_of : {X : Type 0} → Asked X → Configured
root_of at = record { stack = at.stack; place = at.place }

module _ {X : Type 0} (token : X → ℕ) (at : Asked X) where
  -- the step can be taken at u, and leads to v
  abbrev pub IsEdge : Configured → PlainStep → Configured → Type 0
  IsEdge u step v =
      (prods : List ℕ) × StepsTo token at.checked.grammar at.checked.table at.lexemes u.stack u.place step prods v.stack v.place

  -- from the error point the steps lead to v
  abbrev pub LeadTo : List PlainStep → Configured → Type 0
  LeadTo steps v = LeadsTo token at steps v.stack v.place

  -- a parse can go on from v
  abbrev pub GoesOnFrom : Configured → Type 0
  GoesOnFrom v = CanGoOn token at.checked.grammar at.checked.table at.lexemes at.shifts v.stack v.place

module _ {X : Type 0} (token : X → ℕ) (costs : List ℕ) (at : Asked X) where
  -- what a step costs at u
  abbrev pub edge_cost : Configured → PlainStep → ℕ
  edge_cost u step = step_cost token at.checked.grammar at.lexemes costs u.place step

  -- v is nearer than c: some sequence that costs less than c leads to it
  abbrev pub IsNearer : ℕ → Configured → Type 0
  IsNearer c v = (steps : List PlainStep) × LeadTo token at steps v × (cost_of token costs at steps < c)

  -- the distance of v: the least that a sequence costs that leads to it, whatever its form
  pub record IsDistance (v : Configured) (d : ℕ) : Type 0 where
    pub some : (steps : List PlainStep) × LeadTo token at steps v × (cost_of token costs at steps ≡ d)
    pub none : (steps : List PlainStep) → LeadTo token at steps v → d ≤ cost_of token costs at steps
