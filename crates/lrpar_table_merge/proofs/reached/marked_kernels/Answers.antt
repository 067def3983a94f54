use Rattle.std.proofs.Common.{◌≡◌, ◌∙◌, [], All, sym, ap, subst, arith, length, map}
use Rattle.std.proofs.lemmas.List.{length_push}
use Rattle.lrpar_table_items.specs.Cores.{IsCoreOf, core_set}
use Rattle.lrpar_table_items.specs.Next.{kernel_at, kernel_rows}
use Rattle.lrpar_table_items.proofs.FindLemmas.{mapped_at}
use Rattle.lrpar_table_merge.specs.Merging.{AreCoreRows}
use Rattle.lrpar_table_merge.proofs.MergingLemmas.{rows_push}
use Rattle.lrpar_table_merge.proofs.PassLemmas.{rows_len}
use Rattle.lrpar_table_merge.proofs.reached.marked_kernels.Goals as goal
use Rattle.lrpar_table_merge.proofs.reached.marked_kernels.Goals.{then-has_mark+in_ok-kernel+in_ok-push, else-has_mark}

pub loop-number-preserved : goal.loop-number-preserved
loop-number-preserved g c =
    let index = g.StorageT.StorageIndex.index in
    let kernels = c.args.kernels.now in
    let number = c.loop-number.number in
    let so_far = c.loop-number.invariant in
    let low = c.loop-number-test.true in
    let before = so_far.1 in
    elim c.if-has_mark.branch [
      | then-has_mark+in_ok-kernel+in_ok-push w ↦
          let is = ap (λ v. v.items) w.marked-is ∙ w.in_ok-push.ensures.items in
          let len = ap length is ∙ length_push c.loop-number.marked.items w.in_ok-kernel.kernel in
          let own : map (core_set index) w.in_ok-kernel.kernel.items ≡ kernel_at (kernel_rows index kernels) number =
          w.in_ok-kernel.ensures ∙ ap (map (core_set index)) w.deref.ensures.value
          ∙ sym (mapped_at (λ k. map (core_set index) k.items) kernels number w.index-kernels-number.result [] low w.index-kernels-number.is) in (
            λ grm all.
                rows_push index grm c.loop-number.marked.items c.if-has_mark.marked.items w.in_ok-kernel.kernel is (so_far.0 grm all)
                (subst (All (IsCoreOf grm)) (sym own) (all number [] (omega (arith, low, rows_len index kernels)))),
            omega (arith, len, before),
          )
      | else-has_mark w ↦ (
        λ grm all. subst (λ v. AreCoreRows grm (kernel_rows index v.items)) (sym w.marked-is) (so_far.0 grm all),
        (let same = ap (λ v. length v.items) w.marked-is in omega (arith, same, before)),
      )
    ]
