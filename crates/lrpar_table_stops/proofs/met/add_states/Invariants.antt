use Rattle.std.proofs.Common.{◌≡◌, ◌<◌, ℕ}
use Rattle.std.specs.Bool.{OnFalse, OnTrue}
use Rattle.lrpar_table_first.specs.FirstRows.{total_missing}
use Rattle.lrpar_table_stops.specs.Met.{AreRight, IsLeft}
use Rattle.lrpar_table_stops.proofs.met.add_states.Given as goal

-- either fewer tokens are missing, or all is as before and nothing is missing so far
abbrev pub invariant-loop-number : goal.invariant-loop-number
invariant-loop-number g l =
    AreRight l.grm l.stable l.sets
    × OnTrue l.grown (total_missing l.sets < total_missing l.fn.sets)
    × OnFalse l.grown ((l.sets ≡ l.fn.sets) × ((n : ℕ) → n < l.number → IsLeft l.stable l.sets n))
