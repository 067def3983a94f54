use Rattle.std.proofs.Common.{◌+◌, map}
use Rattle.lrpar_parse_repair.specs.PlainSteps.{plain_sequences}
use Rattle.lrpar_parse_cpctplus.specs.Chosen.{above}
use Rattle.lrpar_parse_cpctplus.specs.LinkView.{plain_ending, plain_link}
use Rattle.lrpar_parse_cpctplus.proofs.GroupLemmas.{AreListed}
use Rattle.lrpar_parse_cpctplus.proofs.listing.all_repairs.Given as goal

-- the groups of further places are listed, and the next one is that of the next place
abbrev pub invariant-groups : goal.invariant-groups
invariant-groups g l =
    let index = g.StorageT.StorageIndex.index in
    AreListed l.wanted.avoided.now l.linked.len (l.linked.len + 1) (map (plain_link index) l.linked.links.items)
    (map (plain_ending index) l.linked.endings.items) l.wanted.most (above l.reach) (plain_sequences index l.listed.items)

abbrev pub decreases-groups : goal.decreases-groups
decreases-groups g l = above l.reach
