use Rattle.std.proofs.Common.{◌<◌, ◌∙◌, sym, subst, arith, length, map}
use Rattle.std.proofs.lemmas.Bool.{eqb-false}
use Rattle.lrpar_table_items.specs.CoreOrder.{IsKernel}
use Rattle.lrpar_table_items.specs.Cores.{core_set}
use Rattle.lrpar_table_merge.specs.Merging.{IsMade}
use Rattle.lrpar_table_merge.proofs.MergingLemmas.{kernel_or_empty, made_or_empty}
use Rattle.lrpar_table_merge.proofs.merge.Merging.merge_kernels.Goals as goal

pub merge_kernel-requires-clause-kernel : goal.merge_kernel-requires-clause-kernel
merge_kernel-requires-clause-kernel g c =
    let index = g.StorageT.StorageIndex.index in
    let grm = c.args.grm.now in
    let kernel = c.kernel-item.result in
    let full = eqb-false kernel.len 0 (sym c.is_empty.ensures ∙ c.if-is_empty.false) in
    let some : 0 < length kernel.items = omega (arith, full, kernel.ok.0) in
    let value = sym c.deref.ensures.value in record {
      is =
          subst (λ cores. IsKernel grm (map (core_set index) cores)) value
          (kernel_or_empty index grm c.args.kernels.now c.loop-kernel.kernel-index kernel c.loop-kernel-test.true c.kernel-item.is c.requires.kernels.are some);
      made =
          subst (λ cores. IsMade grm (map (core_set index) cores)) value
          (made_or_empty index grm c.args.kernels.now c.loop-kernel.kernel-index kernel c.loop-kernel-test.true c.kernel-item.is c.requires.kernels.made some);
    }
