use Rattle.std.proofs.Common.{◌≡◌, ◌<◌, ◌≤◌, ◌-◌, ◌^◌, ◌++◌, List, false, get_or, length}
use Rattle.lrpar_parse_repair.specs.PlainSteps.{plain_steps}
use Rattle.lrpar_parse_repair.specs.Sequences.{PlainStep}
use Rattle.lrpar_parse_cpctplus.specs.Forming.{form_of}
use Rattle.lrpar_parse_cpctplus.specs.NodesView.{rests_of}
use Rattle.lrpar_parse_cpctplus.proofs.nodes.Nodes.repair.Given as goal

-- the repair goes on from here as the rest at this place
abbrev pub invariant-steps : goal.invariant-steps
invariant-steps g l =
    let index = g.StorageT.StorageIndex.index in
    let rests = rests_of index l.self in
    record {
      within : l.place < length (rests l.left l.form l.node);
      fits : l.place < 2 ^ 64 - 1;
      fewer : l.left ≤ l.steps;
      is : (d : List PlainStep) → get_or (rests l.steps (form_of l.fn.class false) 0) l.fn.place d
          ≡ plain_steps index l.repair.items ++ get_or (rests l.left l.form l.node) l.place d;
    }

abbrev pub decreases-steps : goal.decreases-steps
decreases-steps g l = l.left
