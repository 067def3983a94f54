use Rattle.std.proofs.Common.{◌<◌, arith, length}
use Rattle.lrpar_table_items.specs.Next.{kernel_rows}
use Rattle.lrpar_table_merge.proofs.ClearLemmas.{all_empty, kernels_cleared_on}
use Rattle.lrpar_table_merge.proofs.PassLemmas.{rows_len}
use Rattle.lrpar_table_merge.proofs.PropagateLemmas.{alike_itself}
use Rattle.lrpar_table_merge.proofs.clear.clear_kernels.Goals as goal

pub loop-state-init : goal.loop-state-init
loop-state-init g c =
    let kernels = kernel_rows g.StorageT.StorageIndex.index c.args.kernels.now in
    record { cores = λ grm are. are; alike = alike_itself kernels; none = λ s low. absurd (omega (arith, low)) }

pub loop-state-preserved : goal.loop-state-preserved
loop-state-preserved g c =
    let one = c.clear_kernel.ensures in
    let low : c.loop-state.state < length c.loop-state.kernels = omega (arith, c.loop-state-test.true, c.loop-state.auto.kernels) in
    kernels_cleared_on g.StorageT.StorageIndex.index c.loop-state.kernels c.loop-state.state c.clear_kernel.new.kernel c.index-kernels-state.result low
    c.args.kernels.now c.loop-state.invariant one.cores one.same one.none

pub returns-clause-none : goal.returns-clause-none
returns-clause-none g c =
    let index = g.StorageT.StorageIndex.index in
    let kernels = c.loop-state.kernels in
    all_empty (kernel_rows index kernels) (length kernels) (rows_len index kernels)
    (λ s low. c.loop-state.invariant.none s (omega (arith, low, c.loop-state-test.false, c.loop-state.auto.kernels)))
