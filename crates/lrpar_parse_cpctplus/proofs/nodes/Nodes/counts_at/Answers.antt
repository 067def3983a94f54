use Rattle.std.proofs.Common.{suc}
use Rattle.lrpar_parse_cpctplus.specs.NodesView.{links_of}
use Rattle.lrpar_parse_cpctplus.proofs.CountLemmas.{all_counts}
use Rattle.lrpar_parse_cpctplus.proofs.nodes.Nodes.counts_at.Goals as goal

pub returns : goal.returns
returns g c s is =
    let index = g.StorageT.StorageIndex.index in
    let nodes = c.args.self.now in
    all_counts nodes.avoided.now nodes.end (links_of index nodes) (suc s) c.args.node
    (record { after_delete = c.numbers_at.result; after_other = c.numbers_at-2.result }) (c.numbers_at.ensures s is) (c.numbers_at-2.ensures s is)
