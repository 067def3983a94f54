use Rattle.std.proofs.Common.{inl, inr, Some, ap, arith, map, subst, ◌+◌}
use Rattle.std.proofs.lemmas.List.{length-map}
use Rattle.lrpar_parse_repair.specs.PlainSteps.{plain_sequences, plain_steps}
use Rattle.lrpar_parse_cpctplus.specs.Chosen.{above}
use Rattle.lrpar_parse_cpctplus.specs.LinkView.{plain_ending, plain_link}
use Rattle.lrpar_parse_cpctplus.proofs.FurthestLemmas.{above_at_most, reaches_of, under_found}
use Rattle.lrpar_parse_cpctplus.proofs.GroupLemmas.{AreListed, listed_ranked, more_listed, none_listed}
use Rattle.lrpar_parse_cpctplus.proofs.listing.all_repairs.Goals as goal

pub groups-init : goal.groups-init
groups-init g c =
    let index = g.StorageT.StorageIndex.index in
    let linked = c.args.linked.now in
    let found = rw c.deref.ensures.value at c.furthest-reach.ensures in
    rw c.new-listed.ensures.items
    (none_listed c.args.wanted.now.avoided.now linked.len (linked.len + 1) (map (plain_link index) linked.links.items)
    (map (plain_ending index) linked.endings.items) c.args.wanted.now.most (above c.furthest-reach.result)
    (λ ending m. under_found index linked.endings.items _ c.furthest-reach.result found ending m tt))

pub returns-then-len-wanted : goal.returns-then-len-wanted
returns-then-len-wanted g c =
    let index = g.StorageT.StorageIndex.index in
    let linked = c.args.linked.now in
    let l = c.groups in
    let long = length-map l.listed.items (λ steps. plain_steps index steps.items) in
    record {
      ranked = listed_ranked c.args.wanted.now.avoided.now linked.len (linked.len + 1) (map (plain_link index) linked.links.items)
          (map (plain_ending index) linked.endings.items) c.args.wanted.now.most (above l.reach) (plain_sequences index l.listed.items) l.invariant
          (inr (omega (arith, long, c.if-len-wanted.true, c.len.ensures)));
    }

pub groups-preserved : goal.groups-preserved
groups-preserved g c =
    let index = g.StorageT.StorageIndex.index in
    let linked = c.args.linked.now in
    let wanted = c.args.wanted.now in
    let links = map (plain_link index) linked.links.items in
    let endings = map (plain_ending index) linked.endings.items in
    let l = c.groups in
    let far = c.in-Some.far in
    let after = c.furthest-reach-in-Some.result in
    let found = rw c.deref-in-Some.ensures.value at c.furthest-reach-in-Some.ensures in
    let group = c.in_ok-push_group.ensures.group in
    let here = subst (λ o. AreListed wanted.avoided.now linked.len (linked.len + 1) links endings wanted.most (above o) (plain_sequences index l.listed.items)) c.in-Some.is l.invariant in
    more_listed wanted.avoided.now linked.len (linked.len + 1) links endings wanted.most far (above after) (plain_sequences index l.listed.items)
    (plain_sequences index c.push_group.new.listed.items) group.0 (above_at_most (reaches_of index linked.endings.items) far after found)
    (λ ending m less. under_found index linked.endings.items (Some far) after found ending m less) group.1 group.2 here

pub returns : goal.returns
returns g c =
    let index = g.StorageT.StorageIndex.index in
    let linked = c.args.linked.now in
    let l = c.groups in
    record {
      ranked = listed_ranked c.args.wanted.now.avoided.now linked.len (linked.len + 1) (map (plain_link index) linked.links.items)
          (map (plain_ending index) linked.endings.items) c.args.wanted.now.most (above l.reach) (plain_sequences index l.listed.items) l.invariant
          (inl (ap above c.in_default.is));
    }
