use Rattle.std.proofs.Common.{length}
use Rattle.std.specs.Prelude.{◌↔◌}
use Rattle.lrpar_diagnostics.specs.Underline.{EndOnLine, FollowInOrder}
use Rattle.lrpar_diagnostics.proofs.source.Source.end_on_line.Given as goal

-- those that are left end on the line exactly if all do
abbrev pub invariant-loop-span : goal.invariant-loop-span
invariant-loop-span l = record {
  order : FollowInOrder l.self.lines l.after l.rest;
  line : EndOnLine l.self.lines l.start l.rest ↔ EndOnLine l.self.lines l.start l.fn.spans;
}

abbrev pub decreases-loop-span : goal.decreases-loop-span
decreases-loop-span l = length l.rest
