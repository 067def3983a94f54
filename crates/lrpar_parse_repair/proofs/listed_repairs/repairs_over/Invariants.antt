use Rattle.std.proofs.Common.{◌≡◌, ◌++◌, drop, map}
use Rattle.lrpar_parse_repair.specs.Repaired.{repairs_over}
use Rattle.lrpar_parse_repair.specs.PlainSteps.{plain_steps}
use Rattle.lrpar_parse_lexemes.specs.Repairs.{repair_of}
use Rattle.lrpar_parse_repair.proofs.listed_repairs.repairs_over.Given as goal

-- the repairs so far and those of the steps that are left are all
abbrev pub invariant-loop-step : goal.invariant-loop-step
invariant-loop-step g l =
    let index = g.StorageT.StorageIndex.index in
    map (repair_of index) l.repairs.items ++ repairs_over l.rest (plain_steps index (drop l.step-index l.steps)) ≡ repairs_over l.fn.left (plain_steps index l.steps)
