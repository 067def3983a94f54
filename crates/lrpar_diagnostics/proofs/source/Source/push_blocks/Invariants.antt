use Rattle.std.proofs.Common.{◌≡◌, ◌≤◌, ◌+◌, ◌-◌, ◌++◌, length}
use Rattle.std.specs.List.{AllByRecursion}
use Rattle.std.specs.String.{string_bytes}
use Rattle.lrpar_grammar.specs.SpansFit.{IsPartOf}
use Rattle.lrpar_diagnostics.specs.Blocks.{blocks_after}
use Rattle.lrpar_diagnostics.proofs.source.Source.push_blocks.Given as goal

-- with the blocks of the places that are left, the text so far is the whole
abbrev pub invariant-loop-span : goal.invariant-loop-span
invariant-loop-span l =
    let src = l.self.lines in
    record {
      left : length l.rest ≤ length l.spans;
      fit : AllByRecursion (IsPartOf src) l.rest;
      whole : string_bytes l.out ++ blocks_after src l.kind (length l.spans - length l.rest + 2) l.rest
          ≡ string_bytes l.fn.out ++ blocks_after src l.kind 2 l.fn.spans;
    }

abbrev pub decreases-loop-span : goal.decreases-loop-span
decreases-loop-span l = length l.rest
