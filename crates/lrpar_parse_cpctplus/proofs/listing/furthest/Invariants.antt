use Rattle.std.proofs.Common.{map, take}
use Rattle.lrpar_parse_cpctplus.specs.Chosen.{IsFurthestBelow}
use Rattle.lrpar_parse_cpctplus.proofs.listing.furthest.Given as goal

-- the furthest one of those so far
abbrev pub invariant-loop-ending : goal.invariant-loop-ending
invariant-loop-ending g l = IsFurthestBelow (map (λ ending. ending.reach) (take l.ending-index l.endings)) l.bound l.found
