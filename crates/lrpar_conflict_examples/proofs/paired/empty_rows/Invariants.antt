use Rattle.std.proofs.Common.{map}
use Rattle.lrpar_conflict_examples.specs.Pairs.{AreEmptyRows}
use Rattle.lrpar_conflict_examples.proofs.paired.empty_rows.Given as goal

-- as many rows as passes of the loop
abbrev pub invariant-loop : goal.invariant-loop
invariant-loop l = AreEmptyRows l.counter (map (λ row. row.items) l.rows.items)
