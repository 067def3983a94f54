use Rattle.std.proofs.Common.{◌<◌, ℕ}
use Rattle.lrpar_table_stops.specs.Met.{StopsAt}
use Rattle.lrpar_table_stops.proofs.met.stops_in.Given as goal

-- a run isn't known to stop at a token so far
abbrev pub invariant-loop-number : goal.invariant-loop-number
invariant-loop-number g l = (t : ℕ) → t < l.number → ¬ (StopsAt l.stable l.sets (g.StorageT.StorageIndex.index l.state.0) t)
