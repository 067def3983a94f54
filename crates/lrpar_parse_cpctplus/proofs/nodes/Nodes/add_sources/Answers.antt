use Rattle.lrpar_parse_cpctplus.proofs.CountLemmas.{no_source, source_more, sources_all}
use Rattle.lrpar_parse_cpctplus.proofs.nodes.Nodes.add_sources.Goals as goal

pub loop-source-init : goal.loop-source-init
loop-source-init g c = no_source g.StorageT.StorageIndex.index c.args.self.now c.args.layer.now c.args.next.now

pub loop-source-preserved : goal.loop-source-preserved
loop-source-preserved g c =
    let l = c.loop-source in
    source_more g.StorageT.StorageIndex.index c.args.self.now c.args.layer.now c.nodes_into-sources.result.now l.source-index c.loop-source-test.true
    c.args.next.now l.next c.add_source.new.next l.invariant c.in_ok-add_source.ensures

pub returns : goal.returns
returns g c =
    let l = c.loop-source in
    sources_all g.StorageT.StorageIndex.index c.args.self.now c.args.layer.now c.nodes_into-sources.result.now _ c.nodes_into-sources.ensures
    l.source-index c.loop-source-test.false c.args.next.now l.next l.invariant
