use Rattle.lrpar_parse_repair.specs.PlainSteps.{plain_sequences}
use Rattle.lrpar_parse_cpctplus.specs.NodesView.{links_of}
use Rattle.lrpar_parse_cpctplus.proofs.ChoiceLemmas.{class_more}
use Rattle.lrpar_parse_cpctplus.proofs.nodes.Nodes.push_class.Goals as goal

pub loop-steps-preserved : goal.loop-steps-preserved
loop-steps-preserved g c =
    let index = g.StorageT.StorageIndex.index in
    let nodes = c.args.self.now in
    class_more nodes.avoided.now nodes.end (links_of index nodes) c.args.class c.args.most c.loop-steps.steps (plain_sequences index c.args.listed.now.items)
    (plain_sequences index c.loop-steps.listed.items) (plain_sequences index c.push_length.new.listed.items) c.loop-steps.invariant c.in_ok-push_length.ensures
