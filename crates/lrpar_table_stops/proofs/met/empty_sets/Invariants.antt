use Rattle.std.proofs.Common.{◌≡◌, length, All}
use Rattle.lrpar_table_first.specs.FirstRows.{HoldNothing, rows_of}
use Rattle.lrpar_table_stops.proofs.met.empty_sets.Given as goal

-- as many sets as passes of the loop, each with room, and empty
abbrev pub invariant-loop : goal.invariant-loop
invariant-loop g l = (length l.sets.items ≡ l.counter) × HoldNothing (rows_of l.sets.items) × All (λ row. length row ≡ l.stable.tokens) (rows_of l.sets.items)
