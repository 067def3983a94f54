use Rattle.std.proofs.Common.{take}
use Rattle.lrpar_table_first.specs.FirstRows.{rows_of}
use Rattle.lrpar_table_conditions.specs.Itemwise.{HaveStarts}
use Rattle.lrpar_table_conditions.proofs.ItemwiseLemmas.{AddsStarts, AreAdded, HasEntry}
use Rattle.lrpar_table_conditions.proofs.completeness_test.Completeness.put_starts.Given as goal

-- the sets have what they had before, the lookaheads of the cores with dot 0 so far, and nothing else
abbrev pub invariant-loop-pidx : goal.invariant-loop-pidx
invariant-loop-pidx g l =
    let index = g.StorageT.StorageIndex.index in
    HaveStarts l.self.grm.now (rows_of l.starts)
    × AreAdded (AddsStarts index l.self.sgraph.now (index l.s.0)) (take l.pidx-index l.pidx-items) (HasEntry (rows_of l.fn.starts)) (HasEntry (rows_of l.starts))
