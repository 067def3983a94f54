use Rattle.std.proofs.Common.{◌≡◌, ◌≤◌, ◌-◌, [], ◌∷◌, ◌++◌, length}
use Rattle.std.specs.List.{flat_map, join_by}
use Rattle.std.specs.String.{string_bytes}
use Rattle.lrpar_diagnostics.specs.Underline.{marked_line, printed_after, printed_lines}
use Rattle.lrpar_diagnostics.proofs.source.Source.push_block.Given as goal

-- with the lines after this one, the text so far is the whole
abbrev pub invariant-loop-next : goal.invariant-loop-next
invariant-loop-next l =
    let src = l.self.lines in
    let marked = marked_line src l.prefix l.span l.underline_c in
    record {
      within : l.start ≤ length src;
      whole : string_bytes l.out ++ flat_map (λ b. 10 ∷ marked b) (printed_after src l.start l.span.end)
          ≡ string_bytes l.fn.out ++ join_by marked (10 ∷ []) (printed_lines src l.span);
    }

abbrev pub decreases-loop-next : goal.decreases-loop-next
decreases-loop-next l = length l.self.lines - l.start
