use Rattle.std.proofs.Common.{◌≡◌, ◌<◌, ◌↔◌, ℕ, IsTrue, length}
use Rattle.lrpar_table_sentences.specs.Reachable.{is_marked}
use Rattle.lrpar_table_stops.specs.Met.{StopsIn}
use Rattle.lrpar_table_stops.proofs.stops.marks_of.Given as goal

-- each state so far has its mark
abbrev pub invariant-loop-number : goal.invariant-loop-number
invariant-loop-number g l =
    (length l.marks.items ≡ l.number) × ((s : ℕ) → s < l.number → IsTrue (is_marked l.marks.items s) ↔ StopsIn l.stable l.sets s)
