use Rattle.std.proofs.Common.{◌≡◌, ◌<◌, ℕ}
use Rattle.std.specs.Bool.{OnFalse, OnTrue}
use Rattle.lrpar_table_sentences.specs.Reachable.{AreMarked, MarksOn, unmarked}
use Rattle.lrpar_table_sentences.proofs.reachable.mark_all.Given as goal

-- either fewer rules are unmarked, or all is as before and nothing is missing of the productions so far
abbrev pub invariant-loop-prod : goal.invariant-loop-prod
invariant-loop-prod g l =
    AreMarked l.grm l.marks
    × OnTrue l.grown (unmarked l.marks < unmarked l.initial.marks)
    × OnFalse l.grown ((l.marks ≡ l.initial.marks) × ((p : ℕ) → p < l.prod → MarksOn l.grm l.marks p))
