use Rattle.std.proofs.Common.{◌≡◌, ◌<◌, ℕ, IsTrue}
use Rattle.std.specs.Bool.{OnFalse, OnTrue}
use Rattle.lrpar_table_first.specs.FirstRows.{total_missing}
use Rattle.lrpar_table_stops.specs.Met.{AreRight, is_met}
use Rattle.lrpar_table_stops.proofs.met.add_tokens.Given as goal

-- either fewer tokens are missing, or all is as before and nothing is missing so far
abbrev pub invariant-loop-token : goal.invariant-loop-token
invariant-loop-token g l =
    AreRight l.grm l.stable l.sets
    × OnTrue l.grown (total_missing l.sets < total_missing l.fn.sets)
    × OnFalse l.grown ((l.sets ≡ l.fn.sets) × ((n : ℕ) → n < l.token → IsTrue (is_met l.sets (g.StorageT.StorageIndex.index l.fn.state.0) n)))
