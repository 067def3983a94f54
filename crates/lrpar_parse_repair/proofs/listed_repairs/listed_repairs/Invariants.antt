use Rattle.std.proofs.Common.{◌≡◌, map, take}
use Rattle.lrpar_parse_repair.specs.Repaired.{repairs_over}
use Rattle.lrpar_parse_repair.specs.PlainSteps.{plain_sequences}
use Rattle.lrpar_parse_lexemes.specs.Repairs.{repairs_of}
use Rattle.lrpar_parse_repair.proofs.listed_repairs.listed_repairs.Given as goal

-- the repairs so far are those of the sequences so far
abbrev pub invariant-loop-steps : goal.invariant-loop-steps
invariant-loop-steps g l =
    let index = g.StorageT.StorageIndex.index in
    repairs_of index l.repairs.items ≡ map (repairs_over l.left) (plain_sequences index (take l.steps-index l.listed))
