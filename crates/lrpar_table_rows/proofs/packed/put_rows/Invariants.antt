use Rattle.std.proofs.Common.{map}
use Rattle.lrpar_table_rows.specs.Packed.{AreOwned}
use Rattle.lrpar_table_rows.proofs.packed.put_rows.Given as goal

-- so far the first rows were put
abbrev pub invariant-loop-number : goal.invariant-loop-number
invariant-loop-number g l = AreOwned (map (λ row. map (λ entry. g.K.Key.number entry.0) row.items) l.rows) l.bases l.slots l.free l.number
