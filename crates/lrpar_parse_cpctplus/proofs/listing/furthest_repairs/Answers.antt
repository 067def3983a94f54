use Rattle.std.proofs.Common.{◌+◌, map}
use Rattle.lrpar_parse_repair.specs.PlainSteps.{plain_sequences}
use Rattle.lrpar_parse_cpctplus.specs.LinkView.{plain_ending, plain_link}
use Rattle.lrpar_parse_cpctplus.specs.Rests.{of_none}
use Rattle.lrpar_parse_cpctplus.proofs.FurthestLemmas.{is_furthest, none_there}
use Rattle.lrpar_parse_cpctplus.proofs.GroupLemmas.{group_ranked}
use Rattle.lrpar_parse_cpctplus.proofs.listing.furthest_repairs.Goals as goal

pub returns-in_default : goal.returns-in_default
returns-in_default g c =
    let found = rw c.deref.ensures.value at c.in_default.ensures in
    rw c.new-listed.ensures.items (record { ranked = of_none (none_there g.StorageT.StorageIndex.index c.args.linked.now.endings.items found) })

pub returns : goal.returns
returns g c =
    let index = g.StorageT.StorageIndex.index in
    let linked = c.args.linked.now in
    let wanted = c.args.wanted.now in
    let found = rw c.deref.ensures.value at c.in-Some.ensures in
    let group = c.in_ok-push_group.ensures.group in
    let added = rw c.new-listed.ensures.items at group.2 in
    record {
      ranked = group_ranked wanted.avoided.now linked.len (linked.len + 1) (map (plain_link index) linked.links.items) (map (plain_ending index) linked.endings.items)
          wanted.most c.in-Some.far (plain_sequences index c.push_group.new.listed.items) group.0 (is_furthest index linked.endings.items c.in-Some.far found) group.1 added;
    }
