use Rattle.std.proofs.Common.{◌≡◌, ◌<◌, ℕ, length}
use Rattle.std.specs.Bool.{OnFalse, OnTrue}
use Rattle.lrpar_table_precedence.specs.Precedence.{PrecedenceLists}
use Rattle.lrpar_table_rows.specs.Table.{Table}
use Rattle.lrpar_table_sentences.specs.Reachable.{unmarked}
use Rattle.lrpar_conflict_examples.specs.Met.{AreMarks, AreSteps}
use Rattle.lrpar_conflict_examples.proofs.MetLemmas.{NextAt}
use Rattle.lrpar_conflict_examples.proofs.met.mark_all.Given as goal

-- either fewer states are unmarked, or all is as before and the steps so far lead to marked states
abbrev pub invariant-loop-edge : goal.invariant-loop-edge
invariant-loop-edge l =
    (length l.marks ≡ length l.initial.marks)
    × ((precedences : PrecedenceLists) (table : Table) → AreSteps precedences table l.edges → AreMarks precedences table l.initial.marks → AreMarks precedences table l.marks)
    × OnTrue l.grown (unmarked l.marks < unmarked l.initial.marks)
    × OnFalse l.grown ((l.marks ≡ l.initial.marks) × ((k : ℕ) → k < l.edge-index → NextAt l.edges l.marks k))
