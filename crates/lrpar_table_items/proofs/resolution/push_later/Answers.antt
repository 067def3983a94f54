use Rattle.std.proofs.Common.{refl, map}
use Rattle.lrpar_table_rows.specs.PlainConflicts.{reduce_reduce_of}
use Rattle.lrpar_table_items.proofs.EntryLemmas.{conflicts_more}
use Rattle.lrpar_table_items.proofs.resolution.push_later.Goals as goal

pub loop-prod-preserved : goal.loop-prod-preserved
loop-prod-preserved g c =
    let index = g.StorageT.StorageIndex.index in
    conflicts_more (reduce_reduce_of index) (λ p. index p.0) (index c.args.state.now.0) (index c.args.tidx.now.0) (index c.args.least.now.0) c.args.later.now
    c.loop-prod.prod-index c.prod-item.result c.loop-prod.rr.items _ _ (map (reduce_reduce_of index) c.args.rr.now.items) c.loop-prod-test.true c.prod-item.is
    c.loop-prod.invariant c.in_ok-push.ensures.items refl
