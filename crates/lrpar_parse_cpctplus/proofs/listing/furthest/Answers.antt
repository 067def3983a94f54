use Rattle.std.proofs.lemmas.Bool.{iff_false}
use Rattle.lrpar_parse_cpctplus.proofs.FurthestLemmas.{furthest_kept, furthest_taken, none_furthest}
use Rattle.lrpar_parse_cpctplus.proofs.listing.furthest.Goals as goal
use Rattle.lrpar_parse_cpctplus.proofs.listing.furthest.Goals.{then-is_below+then-is_above, else-is_below, else-is_below-via-then-is_below+else-is_above, else-is_below-via-else-is_below}

pub loop-ending-init : goal.loop-ending-init
loop-ending-init g c = none_furthest c.args.bound

pub loop-ending-preserved : goal.loop-ending-preserved
loop-ending-preserved g c =
    let index = g.StorageT.StorageIndex.index in
    let endings = c.args.endings.now in
    let l = c.loop-ending in
    let ending = c.ending-item.result in
    elim c.if-is_below.branch [
      | then-is_below+then-is_above w ↦
          rw w.found-is
          (furthest_taken index endings l.ending-index ending c.args.bound l.found c.loop-ending-test.true c.ending-item.is (c.is_below.ensures.0 w.if-is_below.true)
          (w.is_above.ensures.0 w.if-is_above.true) l.invariant)
      | else-is_below w ↦
          rw w.found-is
          (furthest_kept index endings l.ending-index ending c.args.bound l.found c.loop-ending-test.true c.ending-item.is
          (λ under over. elim w.else-is_below.branch as (λ _. ⊥) [
            | else-is_below-via-then-is_below+else-is_above v ↦ iff_false v.is_above.ensures v.if-is_above.false over
            | else-is_below-via-else-is_below v ↦ iff_false c.is_below.ensures v.if-is_below.false under
          ])
          l.invariant)
    ]
