-- Sequences of any form that work at an error point, beside the repairs.
use Rattle.std.specs.Prelude.{◌≤◌, ℕ, List}
use Rattle.lrpar_parse_repair.specs.Asked.{Asked}
use Rattle.lrpar_parse_repair.specs.Sequences.{PlainStep, Works}
use Rattle.lrpar_parse_cpctplus.specs.Cheapest.{IsLeastCost, IsRepair, cost_of}

-- the steps work at the error point, in whatever order they are
abbrev pub WorksAt : {X : Type 0} → (X → ℕ) → Asked X → List PlainStep → Type 0
WorksAt token at steps = Works token at.checked.grammar at.checked.table at.lexemes at.shifts at.stack at.place steps

-- for each sequence that works at an error point there is a repair that costs no more
abbrev pub HaveRepairs : Type 0 → Type 0
HaveRepairs X =
    (token : X → ℕ) (costs : List ℕ) (at : Asked X) (steps : List PlainStep) → WorksAt token at steps
    → (repair : List PlainStep) × IsRepair token at repair × (cost_of token costs at repair ≤ cost_of token costs at steps)

-- no sequence that works at an error point costs less than the least that a repair costs
abbrev pub CostNoLess : Type 0 → Type 0
CostNoLess X =
    (token : X → ℕ) (costs : List ℕ) (at : Asked X) (c : ℕ) → IsLeastCost token costs at c
    → (steps : List PlainStep) → WorksAt token at steps → c ≤ cost_of token costs at steps
