-- Costs that each token has.
use Rattle.std.proofs.Common.{◌<◌, ◌≤◌, inl, inr, ℕ, List, arith, get_or, length}
use Rattle.std.proofs.lemmas.List.{get_or_default, get_or_past}
use Rattle.lrpar_parse_cpctplus.specs.Costs.{AreCosts}
use Rattle.lrpar_parse_cpctplus.proofs.DistanceLemmas.{compare}

-- each of the list costs something and at most 255, and one past the list costs 1
pub each_costs : (costs : List ℕ) → ((k : ℕ) → k < length costs → 0 < get_or costs k 1) → ((k : ℕ) → k < length costs → get_or costs k 0 < 256) → AreCosts costs
each_costs costs some most t =
    elim (compare t (length costs)) as (λ _. (0 < get_or costs t 1) × (get_or costs t 1 ≤ 255)) [
      | inl below ↦ (some t below, omega (arith, most t below, get_or_default costs t 0 1 below))
      | inr past ↦
          let over : length costs ≤ t = elim past as (λ _. length costs ≤ t) [ inl e ↦ omega (arith, e) | inr above ↦ omega (arith, above) ] in
          (omega (arith, get_or_past costs t 1 over), omega (arith, get_or_past costs t 1 over))
    ]
