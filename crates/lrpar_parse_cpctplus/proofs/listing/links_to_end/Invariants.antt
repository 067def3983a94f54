use Rattle.std.proofs.Common.{◌≡◌, map, take}
use Rattle.lrpar_parse_cpctplus.specs.LinkView.{plain_ending, plain_link}
use Rattle.lrpar_parse_cpctplus.specs.Rests.{with_endings}
use Rattle.lrpar_parse_cpctplus.proofs.listing.links_to_end.Given as goal

-- the links, and those of the endings so far
abbrev pub invariant-loop-ending : goal.invariant-loop-ending
invariant-loop-ending g l =
    let index = g.StorageT.StorageIndex.index in
    map (plain_link index) l.links.items
    ≡ with_endings l.linked.len l.reach (map (plain_link index) l.linked.links.items) (map (plain_ending index) (take l.ending-index l.linked.endings.items))
