use Rattle.std.proofs.lemmas.Result.{on_ok_weaker}
use Rattle.lrpar_parse_repair.specs.PlainSteps.{plain_sequences}
use Rattle.lrpar_parse_cpctplus.specs.NodesView.{links_of}
use Rattle.lrpar_parse_cpctplus.proofs.ChoiceLemmas.{both_classes}
use Rattle.lrpar_parse_cpctplus.proofs.nodes.Nodes.push_all.Goals as goal

pub returns : goal.returns
returns g c =
    let index = g.StorageT.StorageIndex.index in
    let nodes = c.args.self.now in
    on_ok_weaker c.push_class-2.result
    (λ added.
    both_classes nodes.avoided.now nodes.end (links_of index nodes) nodes.end c.args.most c.args.layers.now (plain_sequences index c.args.listed.now.items)
    (plain_sequences index c.push_class.new.listed.items) (plain_sequences index c.push_class-2.new.listed.items) c.requires.layers c.in_ok-push_class.ensures added)
    c.push_class-2.ensures
