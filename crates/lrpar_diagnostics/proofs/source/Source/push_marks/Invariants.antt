use Rattle.std.proofs.Common.{◌≡◌, ◌++◌, length}
use Rattle.std.specs.Str.{IsCharBoundary}
use Rattle.std.specs.String.{string_bytes}
use Rattle.lrpar_diagnostics.specs.Underline.{FollowInOrder, marks_after}
use Rattle.lrpar_diagnostics.proofs.source.Source.push_marks.Given as goal

-- with the underlines of those that are left, the text so far is the whole
abbrev pub invariant-loop-span : goal.invariant-loop-span
invariant-loop-span l =
    let src = l.self.lines in
    record {
      cut : IsCharBoundary src l.end;
      order : FollowInOrder src l.end l.rest;
      whole : string_bytes l.out ++ marks_after src l.underline_c l.end l.rest
          ≡ string_bytes l.fn.out ++ marks_after src l.underline_c l.fn.after l.fn.spans;
    }

abbrev pub decreases-loop-span : goal.decreases-loop-span
decreases-loop-span l = length l.rest
