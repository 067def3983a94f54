use Rattle.std.proofs.Common.{refl}
use Rattle.lrpar_parse_cpctplus.proofs.FurthestLemmas.{ending_kept, ending_taken}
use Rattle.std.proofs.Common.{map}
use Rattle.lrpar_parse_cpctplus.specs.LinkView.{plain_link}
use Rattle.lrpar_parse_cpctplus.proofs.listing.links_to_end.Goals as goal
use Rattle.lrpar_parse_cpctplus.proofs.listing.links_to_end.Goals.{then-ending-reach+in_ok-push, else-ending-reach}

pub loop-ending-preserved : goal.loop-ending-preserved
loop-ending-preserved g c =
    let index = g.StorageT.StorageIndex.index in
    let linked = c.args.linked.now in
    let plain = map (plain_link index) linked.links.items in
    let l = c.loop-ending in
    let ending = c.ending-item.result in
    let below = rw c.deref-ending-items.ensures.value at c.loop-ending-test.true in
    let read = rw c.deref-ending-items.ensures.value at c.ending-item.is in
    elim c.if-ending-reach.branch [
      | then-ending-reach+in_ok-push w ↦
          rw w.links-is
          (ending_taken index linked.len c.args.reach plain l.links.items w.push.new.self.items (record { from = ending.from; step = ending.step; to = linked.len })
          linked.endings.items l.ending-index ending below read w.if-ending-reach.true w.in_ok-push.ensures.items refl l.invariant)
      | else-ending-reach w ↦
          rw w.links-is
          (ending_kept index linked.len c.args.reach plain l.links.items linked.endings.items l.ending-index ending below read w.if-ending-reach.false l.invariant)
    ]
