use Rattle.std.proofs.Common.{◌∙◌, sym}
use Rattle.std.proofs.lemmas.Result.{on_ok_weaker}
use Rattle.lrpar_parse_cpctplus.proofs.CountLemmas.{source_added, source_there}
use Rattle.lrpar_parse_cpctplus.proofs.nodes.Nodes.add_source.Goals as goal

pub returns-then-has : goal.returns-then-has
returns-then-has g c =
    source_there g.StorageT.StorageIndex.index c.args.self.now c.args.layer.now c.args.source c.args.next.now (sym c.has.ensures ∙ c.if-has.true)

pub returns : goal.returns
returns g c =
    on_ok_weaker c.add.result
    (source_added g.StorageT.StorageIndex.index c.args.self.now c.args.layer.now c.args.source c.args.next.now c.add.new.self c.counts_at.result c.counts_at.ensures)
    c.add.ensures
