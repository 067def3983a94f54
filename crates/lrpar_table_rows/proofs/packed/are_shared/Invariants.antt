use Rattle.std.proofs.Common.{map}
use Rattle.lrpar_table_rows.specs.Packed.{AreShared}
use Rattle.lrpar_table_rows.proofs.packed.are_shared.Given as goal

-- so far each row has the base and the keys of its owner
abbrev pub invariant-loop-number : goal.invariant-loop-number
invariant-loop-number g l = AreShared (map (λ row. map (λ entry. g.K.Key.number entry.0) row.items) l.rows) l.bases l.number
