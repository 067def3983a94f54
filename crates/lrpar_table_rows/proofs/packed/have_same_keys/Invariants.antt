use Rattle.std.proofs.Common.{◌≡◌, map, take}
use Rattle.lrpar_table_rows.proofs.packed.have_same_keys.Given as goal

-- so far the keys are the same
abbrev pub invariant-loop-place : goal.invariant-loop-place
invariant-loop-place g l = take l.place (map (λ entry. g.K.Key.number entry.0) l.one) ≡ take l.place (map (λ entry. g.K.Key.number entry.0) l.other)
