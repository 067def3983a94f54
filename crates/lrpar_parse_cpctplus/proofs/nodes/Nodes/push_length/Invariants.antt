use Rattle.std.proofs.Common.{◌≡◌, ◌≤◌, ◌-◌, ◌++◌, false, length, take}
use Rattle.lrpar_parse_repair.specs.PlainSteps.{plain_sequences}
use Rattle.lrpar_parse_cpctplus.specs.Forming.{form_of}
use Rattle.lrpar_parse_cpctplus.specs.NodesView.{rests_of}
use Rattle.lrpar_parse_cpctplus.proofs.nodes.Nodes.push_length.Given as goal

-- those at the places so far are added
abbrev pub invariant-places : goal.invariant-places
invariant-places g l =
    let index = g.StorageT.StorageIndex.index in
    record {
      listed : plain_sequences index l.listed.items ≡ plain_sequences index l.initial.listed.items ++ take l.place (rests_of index l.self l.steps (form_of l.class false) 0);
      within : l.place ≤ l.many;
      few : l.place ≤ l.most - length l.initial.listed.items;
    }

abbrev pub decreases-places : goal.decreases-places
decreases-places g l = l.many - l.place
