use Rattle.lrpar_table_first.specs.FirstRows.{rows_of}
use Rattle.lrpar_table_conditions.proofs.CoreLemmas.{core_read}
use Rattle.lrpar_table_conditions.proofs.ItemwiseLemmas.{AddsStarts, HasEntry, none_added, one_added, starts_added}
use Rattle.lrpar_table_conditions.proofs.completeness_test.Completeness.put_starts.Goals as goal

pub loop-pidx-init : goal.loop-pidx-init
loop-pidx-init g c =
    let index = g.StorageT.StorageIndex.index in
    (c.requires.room, none_added (AddsStarts index c.args.self.now.sgraph.now (index c.args.s.0)) c.cores-pidx-items.result.now (HasEntry (rows_of c.args.starts.now)))

pub put_start-requires-clause-core : goal.put_start-requires-clause-core
put_start-requires-clause-core g c =
    core_read g.StorageT.StorageIndex.index c.args.self.now.sgraph.now (g.StorageT.StorageIndex.index c.args.s.0) _ _ _ c.cores-pidx-items.ensures.all c.loop-pidx-test.true c.loop-pidx-item.is

pub loop-pidx-preserved : goal.loop-pidx-preserved
loop-pidx-preserved g c =
    let index = g.StorageT.StorageIndex.index in (
      c.put_start.ensures.room,
      one_added (AddsStarts index c.args.self.now.sgraph.now (index c.args.s.0)) c.cores-pidx-items.result.now c.loop-pidx.pidx-index c.loop-pidx-item.result
          (HasEntry (rows_of c.args.starts.now)) (HasEntry (rows_of c.loop-pidx.starts)) (HasEntry (rows_of c.put_start.new.starts)) c.loop-pidx-test.true
          c.loop-pidx-item.is (λ entry. c.put_start.ensures.put entry.0 entry.1) c.loop-pidx.invariant.1,
    )

pub returns-clause-starts : goal.returns-clause-starts
returns-clause-starts g c =
    let index = g.StorageT.StorageIndex.index in
    starts_added index c.args.self.now.sgraph.now (index c.args.s.0) c.cores-pidx-items.result.now c.loop-pidx.pidx-index (rows_of c.args.starts.now)
    (rows_of c.loop-pidx.starts) c.cores-pidx-items.ensures.all c.loop-pidx-test.false c.requires.none c.loop-pidx.invariant.1
