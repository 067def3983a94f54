use Rattle.std.proofs.Common.{refl}
use Rattle.lrpar_parse_cpctplus.specs.NodesView.{links_of}
use Rattle.lrpar_parse_cpctplus.proofs.CountLemmas.{first_is_layer}
use Rattle.lrpar_parse_cpctplus.proofs.nodes.Nodes.first_layer.Goals as goal

pub returns : goal.returns
returns g c =
    let nodes = c.args.self.now in
    first_is_layer nodes.avoided.now nodes.end (links_of g.StorageT.StorageIndex.index nodes) c.new-layer.result c.add.new.self _ refl c.new-layer.ensures
    c.in_ok-add.ensures
