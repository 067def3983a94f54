use Rattle.std.proofs.Common.{List, arith, subst}
use Rattle.std.proofs.lemmas.List.{take_all}
use Rattle.lrpar_parse_cpctplus.specs.LinkView.{AreInRows}
use Rattle.lrpar_parse_cpctplus.specs.declared.link.Link.{Link}
use Rattle.lrpar_parse_cpctplus.proofs.NodeLemmas.{from_more, link_within, to_more}
use Rattle.lrpar_parse_cpctplus.proofs.nodes.in_rows.Goals as goal

pub loop-link-init : goal.loop-link-init
loop-link-init g c = record { from = c.in_ok-out.ensures; to = c.in_ok-into.ensures }

pub index_mut-outgoing-requires : goal.index_mut-outgoing-requires
index_mut-outgoing-requires g c =
    let within = link_within c.args.end c.args.links.now c.loop-link.link-index c.link-item.result c.loop-link-test.true c.link-item.is c.requires.within in
    omega (arith, within.0, c.loop-link.invariant.from.len)

pub index_mut-incoming-requires : goal.index_mut-incoming-requires
index_mut-incoming-requires g c =
    let within = link_within c.args.end c.args.links.now c.loop-link.link-index c.link-item.result c.loop-link-test.true c.link-item.is c.requires.within in
    omega (arith, within.1, c.loop-link.invariant.to.len)

pub loop-link-preserved : goal.loop-link-preserved
loop-link-preserved g c =
    let l = c.loop-link in
    record {
      from = from_more c.args.end c.args.links.now l.link-index c.link-item.result c.loop-link-test.true c.link-item.is c.requires.within l.out.items
          c.index_mut-outgoing.result.now c.push.new.self l.invariant.from c.index_mut-outgoing.ensures.value c.in_ok-push.ensures.items;
      to = to_more c.args.end c.args.links.now l.link-index c.link-item.result c.loop-link-test.true c.link-item.is c.requires.within l.into.items
          c.index_mut-incoming.result.now c.push-in-loop-link.new.self l.invariant.to c.index_mut-incoming.ensures.value c.in_ok-push-2.ensures.items;
    }

pub returns : goal.returns
returns g c =
    subst (λ (l : List (Link g.row.StorageT.Denot)). AreInRows c.args.end l c.loop-link.out.items c.loop-link.into.items)
    (take_all c.loop-link.link-index c.args.links.now c.loop-link-test.false) c.loop-link.invariant
