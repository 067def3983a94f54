use Rattle.std.proofs.Common.{◌≡◌, ◌++◌, [], map, take}
use Rattle.lrpar_table_rows.specs.PlainConflicts.{reduce_reduce_of, shift_reduce_of}
use Rattle.lrpar_table_build.specs.BuilderLaws.{lists_in}
use Rattle.lrpar_conflict_examples.specs.Conflicts.{of_reductions, of_shift, unmet_in}
use Rattle.lrpar_conflict_examples.proofs.conflict_list.table_conflicts.Given as goal

-- the conflicts so far
abbrev pub invariant-reductions : goal.invariant-reductions
invariant-reductions g l =
    let index = g.StorageT.StorageIndex.index in
    unmet_in index l.listed.items ≡ [] ++ map of_reductions (map (reduce_reduce_of index) (take l.conflict-index l.conflict-items))

abbrev pub invariant-shifts : goal.invariant-shifts
invariant-shifts g l =
    let index = g.StorageT.StorageIndex.index in
    unmet_in index l.listed.items
    ≡ map of_reductions (lists_in l.stable.conflicts).reduce_reduce ++ map of_shift (map (shift_reduce_of index) (take l.conflict-index l.conflict-items))
