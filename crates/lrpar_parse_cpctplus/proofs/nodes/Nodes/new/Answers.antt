use Rattle.std.proofs.Common.{List, refl, subst}
use Rattle.lrpar_parse_cpctplus.specs.LinkView.{AreInRows}
use Rattle.lrpar_parse_cpctplus.specs.declared.link.Link.{Link}
use Rattle.lrpar_parse_cpctplus.proofs.NodeLemmas.{are_by_nodes, lead_back, sorted_within}
use Rattle.lrpar_parse_cpctplus.proofs.nodes.Nodes.new.Goals as goal

pub in_rows-requires : goal.in_rows-requires
in_rows-requires g c =
    record {
      within = sorted_within g.StorageT.StorageIndex.index c.args.links.items c.deref.result.now
          (rw (← c.deref.ensures.value) at c.in_ok-links.ensures) c.args.end c.requires.within;
    }

pub returns : goal.returns
returns g c =
    let index = g.StorageT.StorageIndex.index in
    let rows = subst (λ (l : List (Link g.row.StorageT.Denot)). AreInRows c.args.end l c.in_ok-out.out.items c.in_ok-out.into.items) c.deref.ensures.value c.in_ok-out.ensures in
    record {
      avoids = refl;
      ends = refl;
      by_nodes = are_by_nodes index c.args.links.items c.in_ok-links.links.items c.in_ok-links.ensures c.args.end c.requires.within
          c.in_ok-out.out.items rows.from;
      back = lead_back index c.args.links.items c.in_ok-links.links.items c.in_ok-links.ensures c.args.end c.requires.within
          c.in_ok-out.out.items rows.from c.in_ok-out.into.items rows.to;
    }
