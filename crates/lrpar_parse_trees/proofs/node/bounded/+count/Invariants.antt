use Rattle.std.proofs.Common.{◌+◌, ◌-◌, ◌*◌, ◌<◌, ◌≤◌}
use Rattle.lrpar_parse_trees.proofs.node.bounded.+count.Given as goal

-- the budget of a count, and the limit for one of two counts, which calls counts with at most this budget
abbrev pub decreases-count : goal.decreases-count
decreases-count g l = 2 * l.budget

abbrev pub decreases-fewer_of : goal.decreases-fewer_of
decreases-fewer_of g l = 2 * l.limit + 1

abbrev pub invariant-count-loop-node : goal.invariant-count-loop-node
invariant-count-loop-node g l = l.left ≤ l.budget

abbrev pub decreases-count-loop-node : goal.decreases-count-loop-node
decreases-count-loop-node g l = l.left

-- a budget that isn't the limit isn't 0, so that its double is greater
abbrev pub invariant-fewer_of-loop-len : goal.invariant-fewer_of-loop-len
invariant-fewer_of-loop-len g l = record { within : l.budget ≤ l.limit; grows : l.budget < l.limit → 0 < l.budget }

abbrev pub decreases-fewer_of-loop-len : goal.decreases-fewer_of-loop-len
decreases-fewer_of-loop-len g l = l.limit - l.budget
