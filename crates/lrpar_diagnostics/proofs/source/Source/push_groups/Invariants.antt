use Rattle.std.proofs.Common.{◌≡◌, ◌++◌, length}
use Rattle.std.specs.String.{string_bytes}
use Rattle.lrpar_diagnostics.specs.ConflictText.{by_line, groups_text}
use Rattle.lrpar_diagnostics.specs.Underline.{FollowInOrder}
use Rattle.lrpar_diagnostics.proofs.source.Source.push_groups.Given as goal

-- with the lines of the parts that are left, the text so far is the whole
abbrev pub invariant-loop-rest : goal.invariant-loop-rest
invariant-loop-rest l =
    let src = l.self.lines in
    record {
      order : FollowInOrder src 0 l.rest;
      whole : string_bytes l.out ++ groups_text src (by_line src l.rest) ≡ string_bytes l.fn.out ++ groups_text src (by_line src l.fn.spans);
    }

abbrev pub decreases-loop-rest : goal.decreases-loop-rest
decreases-loop-rest l = length l.rest
