use Rattle.std.proofs.Common.{◌<◌, ℕ}
use Rattle.lrpar_table_rows.specs.Graph.{HasItem}
use Rattle.lrpar_table_rows.specs.Safe.{IsItem}
use Rattle.lrpar_table_conditions.proofs.checkable.Checkable.items_are_in_range.Given as goal

-- the items of the states so far are of the grammar
abbrev pub invariant-loop-s : goal.invariant-loop-s
invariant-loop-s g l =
    (n p k t : ℕ) → n < l.s → HasItem l.self.sgraph.now n p k t → IsItem l.self.grm.now p k t
