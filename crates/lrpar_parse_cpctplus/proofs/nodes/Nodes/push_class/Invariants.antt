use Rattle.std.proofs.Common.{◌≡◌}
use Rattle.lrpar_parse_repair.specs.PlainSteps.{plain_sequences}
use Rattle.lrpar_parse_cpctplus.specs.NodesView.{links_of}
use Rattle.lrpar_parse_cpctplus.specs.Rests.{added_first, shorter}
use Rattle.lrpar_parse_cpctplus.proofs.nodes.Nodes.push_class.Given as goal

-- those of fewer steps are added
abbrev pub invariant-loop-steps : goal.invariant-loop-steps
invariant-loop-steps g l =
    let index = g.StorageT.StorageIndex.index in
    plain_sequences index l.listed.items
    ≡ added_first l.most (plain_sequences index l.initial.listed.items) (shorter l.self.avoided.now l.self.end (links_of index l.self) l.class l.steps)
