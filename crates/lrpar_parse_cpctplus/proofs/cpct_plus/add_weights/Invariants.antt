use Rattle.std.proofs.Common.{ℕ, take}
use Rattle.std.specs.List.{Contains}
use Rattle.lrpar_parse_cpctplus.specs.SearchRound.{AreOnce}
use Rattle.lrpar_parse_cpctplus.proofs.cpct_plus.add_weights.Given as goal

-- the costs so far are among the weights
abbrev pub invariant-loop-cost : goal.invariant-loop-cost
invariant-loop-cost l = record {
  once : AreOnce l.weights.items;
  stay : (w : ℕ) → Contains l.fn.weights.items w → Contains l.weights.items w;
  added : (w : ℕ) → Contains (take l.cost-index l.costs) w → Contains l.weights.items w;
}
