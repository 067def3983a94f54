use Rattle.std.proofs.Common.{◌≡◌, ◌-◌, length}
use Rattle.lrpar_table_rows.specs.Runs.{items_left}
use Rattle.lrpar_table_rows.proofs.item_iter.next_position.Given as goal

-- from here on the same items are left
abbrev pub invariant-runs : goal.invariant-runs
invariant-runs g l = items_left l.cores l.runs l.place l.token ≡ items_left l.cores l.runs l.fn.place l.fn.token

-- the runs that are left
abbrev pub decreases-runs : goal.decreases-runs
decreases-runs g l = length l.runs - l.place
