use Rattle.std.proofs.Common.{map, take}
use Rattle.lrpar_report.specs.Loops.{Lead, step_of}
use Rattle.lrpar_report.proofs.loops.end_of.Given as goal

-- the steps so far lead to the rule
abbrev pub invariant-steps : goal.invariant-steps
invariant-steps g l =
    let index = g.StorageT.StorageIndex.index in
    Lead l.kind l.grm (index l.fn.from.0) (map (step_of index) (take l.step-index l.steps)) (index l.rule.0)
