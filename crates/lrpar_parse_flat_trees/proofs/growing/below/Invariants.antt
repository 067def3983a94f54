use Rattle.lrpar_parse_flat_trees.specs.Growing.{AreBelow}
use Rattle.lrpar_parse_flat_trees.proofs.growing.below.Given as goal

-- so many trees are left out
abbrev pub invariant-loop-i : goal.invariant-loop-i
invariant-loop-i g l = AreBelow l._i l.nodes l.rest
