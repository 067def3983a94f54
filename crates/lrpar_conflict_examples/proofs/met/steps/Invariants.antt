use Rattle.std.proofs.Common.{◌≡◌, ◌<◌, ℕ}
use Rattle.lrpar_table_first.specs.FirstRows.{rows_of}
use Rattle.lrpar_table_sentences.specs.AccessLens.{IsStoredAt}
use Rattle.lrpar_conflict_examples.specs.Met.{steps_below}
use Rattle.lrpar_conflict_examples.proofs.met.steps.Given as goal

-- the steps of the states so far
abbrev pub invariant-loop-state : goal.invariant-loop-state
invariant-loop-state g l =
    (l.edges.items ≡ steps_below l.stable (rows_of l.taken.items) l.state) × ((s : ℕ) → s < l.state → IsStoredAt l.stable s)
