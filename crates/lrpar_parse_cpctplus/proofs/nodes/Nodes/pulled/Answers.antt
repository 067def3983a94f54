use Rattle.lrpar_parse_cpctplus.specs.NodesView.{links_of}
use Rattle.lrpar_parse_cpctplus.proofs.CountLemmas.{pulled_all, pulled_by}
use Rattle.lrpar_parse_cpctplus.proofs.nodes.Nodes.pulled.Goals as goal

pub loop-link-preserved : goal.loop-link-preserved
loop-link-preserved g c s is =
    let index = g.StorageT.StorageIndex.index in
    let nodes = c.args.self.now in
    pulled_by index nodes.avoided.now nodes.end (links_of index nodes) s c.args.form c.args.layer.now is c.links_from-links.result.now c.loop-link.link-index
    c.link-item.result c.after-after.result c.loop-link.sum c.count.result c.saturating_add-sum.result c.loop-link-test.true c.link-item.is (c.loop-link.invariant s is)
    c.after-after.ensures c.count.ensures c.saturating_add-sum.ensures

pub returns : goal.returns
returns g c s is =
    let index = g.StorageT.StorageIndex.index in
    let nodes = c.args.self.now in
    pulled_all index nodes.avoided.now nodes.end (links_of index nodes) s c.args.form c.args.node c.links_from-links.result.now c.loop-link.link-index c.loop-link.sum
    c.loop-link-test.false c.links_from-links.ensures (c.loop-link.invariant s is)
