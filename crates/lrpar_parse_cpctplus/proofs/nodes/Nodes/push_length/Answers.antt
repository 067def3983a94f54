use Rattle.std.proofs.Common.{◌<◌, [], arith, false, length}
use Rattle.lrpar_parse_repair.specs.PlainSteps.{plain_sequences}
use Rattle.lrpar_parse_cpctplus.specs.Forming.{form_of}
use Rattle.lrpar_parse_cpctplus.specs.NodesView.{rests_of}
use Rattle.lrpar_parse_cpctplus.proofs.ChoiceLemmas.{many_at, sequence_more, sequences_long}
use Rattle.lrpar_parse_cpctplus.proofs.nodes.Nodes.push_length.Goals as goal

pub places-preserved : goal.places-preserved
places-preserved g c =
    let index = g.StorageT.StorageIndex.index in
    let begin = rests_of index c.args.self.now in
    let xs = begin c.args.steps (form_of c.args.class false) 0 in
    let l = c.places in
    let many = many_at begin c.args.layers.now c.args.steps c.count-many.result 0 c.index-layers-steps.result c.new.result (form_of c.args.class false) c.requires.layers
    c.requires.steps c.index-layers-steps.is c.new.ensures c.count-many.ensures in
    let below : l.place < length xs = omega (arith, c.places-test.true, many) in
    let long = sequences_long index xs l.place l.listed.items c.args.listed.now.items below l.invariant.listed in
    record {
      listed = sequence_more index xs l.place l.listed.items c.push.new.self.items c.in_ok-repair.repair (plain_sequences index c.args.listed.now.items) below
          l.invariant.listed c.in_ok-push.ensures.items (c.in_ok-repair.ensures []);
      within = omega (arith, c.places-test.true);
      few = omega (arith, long, c.if-len-most.true, c.len.ensures, l.listed.ok);
    }
