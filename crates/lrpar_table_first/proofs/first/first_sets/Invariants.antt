use Rattle.std.proofs.Common.{◌≡◌, ◌+◌, length}
use Rattle.lrpar_table_first.specs.FirstRows.{AreSound, HaveRoom, dummy_lookahead, rows_of, total_missing}
use Rattle.lrpar_table_first.proofs.first.first_sets.Given as goal

abbrev pub invariant-passes : goal.invariant-passes
invariant-passes g l =
    HaveRoom l.grm (rows_of l.sets.items) × AreSound l.grm (rows_of l.sets.items) × (length l.front ≡ dummy_lookahead l.grm + 1)

-- the tokens that the sets lack
abbrev pub decreases-passes : goal.decreases-passes
decreases-passes g l = total_missing (rows_of l.sets.items)
