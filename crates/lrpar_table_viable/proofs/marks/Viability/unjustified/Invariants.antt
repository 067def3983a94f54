use Rattle.std.proofs.Common.{◌<◌, ℕ, IsTrue, slice_index_or}
use Rattle.lrpar_table_viable.specs.Marks.{is_by_marks}
use Rattle.lrpar_table_viable.proofs.marks.Viability.unjustified.Given as goal

-- the marks justify the cores so far
abbrev pub invariant-loop-pidx : goal.invariant-loop-pidx
invariant-loop-pidx g l =
    let index = g.StorageT.StorageIndex.index in
    (j : ℕ) (d : _) → j < l.pidx-index
    → IsTrue (is_by_marks l.self.grm.now l.self.stable.now (index l.s.0) l.marks (index (slice_index_or l.pidx-items j d).0.0) (slice_index_or l.pidx-items j d).1)
