use Rattle.std.proofs.Common.{◌<◌, ℕ}
use Rattle.lrpar_table_rows.specs.Safe.{IsSafeAt}
use Rattle.lrpar_table_check.proofs.safety.first_unsafe.Given as goal

-- the condition holds at the states so far
abbrev pub invariant-loop-s : goal.invariant-loop-s
invariant-loop-s g l =
    (k : ℕ) → k < l.s → IsSafeAt l.parts.grm.now l.parts.sgraph.now l.parts.stable.now l.condition k
