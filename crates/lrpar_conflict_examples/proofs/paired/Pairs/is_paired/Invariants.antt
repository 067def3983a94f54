use Rattle.std.proofs.Common.{◌≡◌, ◌<◌, ℕ, false}
use Rattle.lrpar_conflict_examples.specs.Pairs.{has_pair, rows_in}
use Rattle.lrpar_conflict_examples.proofs.paired.Pairs.is_paired.Given as goal

-- the state is in no pair with those so far
abbrev pub invariant-loop-state : goal.invariant-loop-state
invariant-loop-state l = (s : ℕ) → s < l.state → has_pair (rows_in l.self) s l.other ≡ false
