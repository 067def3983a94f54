use Rattle.std.proofs.Common.{◌≡◌, ◌<◌, ℕ, get_or}
use Rattle.lrpar_grammar_places.specs.Lines.{line_start}
use Rattle.lrpar_grammar_places.specs.Span.{Extent}
use Rattle.lrpar_diagnostics.proofs.source.Source.on_first_line.Given as goal

-- those so far start on that line
abbrev pub invariant-loop-i : goal.invariant-loop-i
invariant-loop-i l = (k : ℕ) (d : Extent) → k < l.i → line_start l.self.lines (get_or l.spans k d).start ≡ l.line
