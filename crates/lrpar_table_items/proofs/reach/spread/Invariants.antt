use Rattle.lrpar_table_items.specs.Brought.{AreBroughtFrom, Keeps}
use Rattle.lrpar_table_items.specs.Working.{AreSets, AreSpreadButWaiting, brought_rows}
use Rattle.lrpar_table_first.specs.FirstRows.{total_missing}
use Rattle.lrpar_table_items.proofs.reach.spread.Given as goal

abbrev pub invariant-passes : goal.invariant-passes
invariant-passes g l =
    AreSets l.grm l.sets
    × AreSpreadButWaiting l.grm l.sets
    × Keeps (brought_rows l.initial.sets) (brought_rows l.sets)
    × AreBroughtFrom l.grm (brought_rows l.initial.sets) (brought_rows l.sets)

-- the tokens that the sets lack
abbrev pub decreases-passes : goal.decreases-passes
decreases-passes g l = total_missing (brought_rows l.sets)
