use Rattle.std.proofs.Common.{◌∙◌, [], refl, ap, map}
use Rattle.std.proofs.lemmas.List.{take_all}
use Rattle.lrpar_table_rows.specs.PlainConflicts.{reduce_reduce_of, shift_reduce_of}
use Rattle.lrpar_table_build.specs.BuilderLaws.{lists_in}
use Rattle.lrpar_conflict_examples.specs.Conflicts.{of_reductions, of_shift, unmet_in, unmet_of}
use Rattle.lrpar_conflict_examples.proofs.ListedLemmas.{listed_more, listed_none}
use Rattle.lrpar_conflict_examples.proofs.conflict_list.table_conflicts.Goals as goal

pub reductions-init : goal.reductions-init
reductions-init g c =
    let index = g.StorageT.StorageIndex.index in
    listed_none (unmet_of index) (reduce_reduce_of index) of_reductions [] c.rr_conflicts-conflict-items.result.now c.new-listed.result.items
    (ap (unmet_in index) c.new-listed.ensures.items)

pub reductions-preserved : goal.reductions-preserved
reductions-preserved g c =
    let index = g.StorageT.StorageIndex.index in
    listed_more (unmet_of index) (reduce_reduce_of index) of_reductions [] c.rr_conflicts-conflict-items.result.now c.reductions.conflict-index c.conflict-item.result
    c.reductions.listed.items c.push.new.self.items _ c.reductions-test.true c.conflict-item.is c.reductions.invariant c.in_ok-push.ensures.items refl

pub shifts-init : goal.shifts-init
shifts-init g c =
    let index = g.StorageT.StorageIndex.index in
    let reductions = c.rr_conflicts-conflict-items.result.now in
    listed_none (unmet_of index) (shift_reduce_of index) of_shift (map of_reductions (lists_in c.args.stable.now.conflicts).reduce_reduce)
    c.sr_conflicts-conflict-items.result.now c.reductions.listed.items
    (c.reductions.invariant
    ∙ ap (λ xs. map of_reductions (map (reduce_reduce_of index) xs)) (take_all c.reductions.conflict-index reductions c.reductions-test.false)
    ∙ ap (map of_reductions) (c.rr_conflicts-conflict-items.ensures ∙ ap (λ o. (lists_in o).reduce_reduce) c.in-Some.ensures))

pub shifts-preserved : goal.shifts-preserved
shifts-preserved g c =
    let index = g.StorageT.StorageIndex.index in
    listed_more (unmet_of index) (shift_reduce_of index) of_shift (map of_reductions (lists_in c.args.stable.now.conflicts).reduce_reduce)
    c.sr_conflicts-conflict-items.result.now c.shifts.conflict-index c.conflict-item-in-shifts.result c.shifts.listed.items c.push-in-shifts.new.self.items _
    c.shifts-test.true c.conflict-item-in-shifts.is c.shifts.invariant c.in_ok-push-2.ensures.items refl
