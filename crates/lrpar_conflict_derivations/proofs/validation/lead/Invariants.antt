use Rattle.std.proofs.Common.{length}
use Rattle.lrpar_table_sentences.specs.AccessStrings.{StepsLead, steps_of}
use Rattle.lrpar_conflict_derivations.proofs.validation.lead.Given as goal

-- with the steps that are left, all lead to the state
abbrev pub invariant-loop-step : goal.invariant-loop-step
invariant-loop-step g l =
    let index = g.StorageT.StorageIndex.index in
    StepsLead l.table (index l.state.0) (steps_of index l.rest) (index l.last.0) → StepsLead l.table l.table.start (steps_of index l.steps) (index l.last.0)

abbrev pub decreases-loop-step : goal.decreases-loop-step
decreases-loop-step g l = length l.rest
