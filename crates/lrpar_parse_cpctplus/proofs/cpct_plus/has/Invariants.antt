use Rattle.std.proofs.Common.{◌<◌, ◌≢◌, ℕ, get_or}
use Rattle.lrpar_parse_cpctplus.proofs.cpct_plus.has.Given as goal

-- none so far is the weight
abbrev pub invariant-loop-one : goal.invariant-loop-one
invariant-loop-one l = (k : ℕ) → k < l.one-index → get_or l.weights k l.weight ≢ l.weight
