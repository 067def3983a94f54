use Rattle.lrpar_table_first.specs.FirstRows.{total_missing}
use Rattle.lrpar_table_stops.specs.Met.{AreRight}
use Rattle.lrpar_table_stops.proofs.stops.closed_sets.Given as goal

abbrev pub invariant-passes : goal.invariant-passes
invariant-passes g l = AreRight l.grm l.stable l.sets.items

-- how many tokens are missing
abbrev pub decreases-passes : goal.decreases-passes
decreases-passes g l = total_missing l.sets.items
