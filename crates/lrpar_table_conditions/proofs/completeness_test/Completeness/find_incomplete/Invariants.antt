use Rattle.std.proofs.Common.{◌<◌, ℕ}
use Rattle.lrpar_table_conditions.specs.Complete.{IsCompleteAt}
use Rattle.lrpar_table_conditions.specs.Itemwise.{AreReady}
use Rattle.lrpar_table_conditions.proofs.completeness_test.Completeness.find_incomplete.Given as goal

-- the condition holds at the states so far
abbrev pub invariant-loop-s : goal.invariant-loop-s
invariant-loop-s g l =
    AreReady l.self.grm.now l.sets × ((k : ℕ) → k < l.s → IsCompleteAt l.self.grm.now l.self.sgraph.now l.self.stable.now l.condition k)
