use Rattle.std.proofs.lemmas.Result.{on_ok_weaker}
use Rattle.lrpar_parse_cpctplus.proofs.FurthestLemmas.{all_within}
use Rattle.lrpar_parse_cpctplus.proofs.GroupLemmas.{group_added}
use Rattle.lrpar_parse_cpctplus.proofs.listing.push_group.Goals as goal

pub new-requires : goal.new-requires
new-requires g c =
    record {
      within = all_within g.StorageT.StorageIndex.index c.args.linked.now c.args.reach c.in_ok-links.links.items c.requires.numbered c.in_ok-links.ensures;
    }

pub layers-requires : goal.layers-requires
layers-requires g c = record { back = c.in_ok-nodes.ensures.back }

pub returns : goal.returns
returns g c =
    record {
      group = on_ok_weaker c.push_all.result
          (group_added g.StorageT.StorageIndex.index c.args.wanted.now c.args.linked.now c.in_ok-nodes.nodes c.in_ok-links.links c.args.reach c.args.listed.now
          c.push_all.new.listed c.in_ok-links.ensures c.in_ok-nodes.ensures)
          c.push_all.ensures;
    }
