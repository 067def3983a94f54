use Rattle.std.proofs.Common.{◌≡◌, ◌<◌, ◌+◌, ℕ, length}
use Rattle.std.specs.Bool.{OnFalse, OnTrue}
use Rattle.lrpar_table_first.specs.FirstRows.{AreSound, HaveRoom, IsClosedAt, dummy_lookahead, rows_of, total_missing}
use Rattle.lrpar_table_first.proofs.first.grow_all.Given as goal

-- either the sets lack fewer tokens than before, or they are as before and are closed at the productions so far
abbrev pub invariant-loop-prod : goal.invariant-loop-prod
invariant-loop-prod g l =
    HaveRoom l.grm (rows_of l.sets)
    × (length l.front ≡ dummy_lookahead l.grm + 1)
    × (AreSound l.grm (rows_of l.initial.sets) → AreSound l.grm (rows_of l.sets))
    × OnTrue l.grown (total_missing (rows_of l.sets) < total_missing (rows_of l.initial.sets))
    × OnFalse l.grown ((rows_of l.sets ≡ rows_of l.initial.sets) × ((p : ℕ) → p < l.prod → IsClosedAt l.grm (rows_of l.sets) p))
