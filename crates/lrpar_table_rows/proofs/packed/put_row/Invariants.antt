use Rattle.std.proofs.Common.{map}
use Rattle.lrpar_table_rows.specs.Packed.{IsPut}
use Rattle.lrpar_table_rows.proofs.packed.put_row.Given as goal

-- so far the first keys were put
abbrev pub invariant-loop-place : goal.invariant-loop-place
invariant-loop-place g l = IsPut (map (λ entry. g.K.Key.number entry.0) l.row) l.base l.free l.initial.slots l.slots l.place
