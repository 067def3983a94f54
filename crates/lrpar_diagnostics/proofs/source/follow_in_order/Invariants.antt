use Rattle.std.proofs.Common.{length}
use Rattle.std.specs.Prelude.{◌↔◌}
use Rattle.lrpar_diagnostics.specs.Underline.{FollowInOrder}
use Rattle.lrpar_diagnostics.proofs.source.follow_in_order.Given as goal

-- those that are left follow exactly if all do
abbrev pub invariant-loop-span : goal.invariant-loop-span
invariant-loop-span l = FollowInOrder l.src l.end l.rest ↔ FollowInOrder l.src 0 l.fn.spans

abbrev pub decreases-loop-span : goal.decreases-loop-span
decreases-loop-span l = length l.rest
