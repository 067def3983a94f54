use Rattle.std.proofs.Common.{◌<◌, ℕ, get_or}
use Rattle.lrpar_parse_cpctplus.proofs.cpct_plus.first_free.Given as goal

-- each token so far costs something
abbrev pub invariant-loop-token : goal.invariant-loop-token
invariant-loop-token l = (k : ℕ) → k < l.token → 0 < get_or l.costs k 1
