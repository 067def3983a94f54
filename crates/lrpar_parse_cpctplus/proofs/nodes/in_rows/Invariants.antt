use Rattle.std.proofs.Common.{take}
use Rattle.lrpar_parse_cpctplus.specs.LinkView.{AreInRows}
use Rattle.lrpar_parse_cpctplus.proofs.nodes.in_rows.Given as goal

-- the rows have the links so far
abbrev pub invariant-loop-link : goal.invariant-loop-link
invariant-loop-link g l = AreInRows l.end (take l.link-index l.links) l.out.items l.into.items
