use Rattle.std.proofs.Common.{take}
use Rattle.lrpar_parse_cpctplus.specs.NodesView.{AddsSources}
use Rattle.lrpar_parse_cpctplus.proofs.nodes.Nodes.add_sources.Given as goal

-- the sources so far are added
abbrev pub invariant-loop-source : goal.invariant-loop-source
invariant-loop-source g l = AddsSources g.StorageT.StorageIndex.index l.self l.layer (take l.source-index l.sources) l.initial.next l.next
