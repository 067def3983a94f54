use Rattle.std.proofs.Common.{◌≡◌}
use Rattle.lrpar_parse_completion.proofs.cheapest.Heights.new.Given as goal

-- the finder stays
abbrev pub invariant-loop-state : goal.invariant-loop-state
invariant-loop-state g l = l.made.finder.now ≡ l.finder
