use Rattle.std.proofs.Common.{slice_index_or}
use Rattle.lrpar_table_viable.specs.Marks.{AreMarked, MarksOn, unmarked}
use Rattle.lrpar_table_viable.proofs.PassLemmas.{IsPass}
use Rattle.lrpar_table_viable.proofs.marks.Viability.mark_all.Given as goal

-- either fewer rules are unmarked, or all is as before and the rule after the dot of each core so far is marked
abbrev pub invariant-loop-pidx : goal.invariant-loop-pidx
invariant-loop-pidx g l =
    let index = g.StorageT.StorageIndex.index in
    let grm = l.self.grm.now in
    let table = l.self.stable.now in
    let s = index l.s.0 in
    AreMarked grm l.self.sgraph.now table s l.marks
    × IsPass unmarked (λ marks j. (d : _) → MarksOn grm table s marks (index (slice_index_or l.pidx-items j d).0.0) (slice_index_or l.pidx-items j d).1)
    l.fn.marks l.marks l.pidx-index l.grown
