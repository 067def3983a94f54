use Rattle.std.proofs.Common.{◌-◌, arith}
use Rattle.lrpar_parse_cpctplus.specs.NodesView.{links_of}
use Rattle.lrpar_parse_cpctplus.proofs.ChoiceLemmas.{is_choice, past_all, past_link}
use Rattle.lrpar_parse_cpctplus.proofs.nodes.Nodes.choose.Goals as goal

pub loop-link-preserved : goal.loop-link-preserved
loop-link-preserved g c =
    let index = g.StorageT.StorageIndex.index in
    let nodes = c.args.self.now in
    let l = c.loop-link in
    record {
      before = λ s is.
          past_link index nodes.avoided.now nodes.end (links_of index nodes) s c.args.form c.args.layer.now is c.links_from-links.result.now l.link-index
          c.link-item.result c.after-after.result c.args.place l.left c.count-many.result (l.left - c.count-many.result) c.loop-link-test.true c.link-item.is
          (l.invariant.before s is) (omega (arith, l.invariant.no_more, c.requires)) c.after-after.ensures c.count-many.ensures c.if-left-many.false
          (omega (arith, c.if-left-many.false));
      no_more = omega (arith, l.invariant.no_more);
    }

pub returns-then-left-many : goal.returns-then-left-many
returns-then-left-many g c s is =
    let index = g.StorageT.StorageIndex.index in
    let nodes = c.args.self.now in
    let l = c.loop-link in
    is_choice index nodes.avoided.now nodes.end (links_of index nodes) s c.args.form c.args.layer.now is c.args.node c.links_from-links.result.now l.link-index
    c.link-item.result c.after-after.result c.args.place l.left c.count-many.result c.loop-link-test.true c.link-item.is c.links_from-links.ensures
    (l.invariant.before s is) l.invariant.no_more c.after-after.ensures c.count-many.ensures c.if-left-many.true

pub returns : goal.returns
returns g c s is =
    let index = g.StorageT.StorageIndex.index in
    let nodes = c.args.self.now in
    let l = c.loop-link in
    past_all index nodes.avoided.now nodes.end (links_of index nodes) s c.args.form c.args.node c.links_from-links.result.now l.link-index c.args.place l.left
    c.loop-link-test.false c.links_from-links.ensures (l.invariant.before s is)
