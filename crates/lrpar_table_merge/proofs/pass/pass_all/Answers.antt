use Rattle.std.proofs.Common.{◌<◌, ◌∙◌, subst, inl, inr, arith, length, map}
use Rattle.lrpar_table_items.specs.Cores.{core_set}
use Rattle.lrpar_table_items.specs.Next.{kernel_rows}
use Rattle.lrpar_table_merge.specs.Propagated.{HasGrown, IsNoneOrKernel}
use Rattle.lrpar_table_merge.proofs.MisfitLemmas.{fault_is, misfit_at}
use Rattle.lrpar_table_merge.proofs.PassLemmas.{rows_len}
use Rattle.lrpar_table_merge.proofs.PropagateLemmas.{added_on, grown_on, grown_result, passed_more, value_at}
use Rattle.lrpar_table_merge.proofs.pass.pass_all.Goals as goal
use Rattle.lrpar_table_merge.proofs.pass.pass_all.Goals.{then-grown, else-grown}

pub pass_one-requires-clause-known : goal.pass_one-requires-clause-known
pass_one-requires-clause-known g c =
    let known = c.requires.known in
    let at = value_at g.StorageT.StorageIndex.index c.args.nexts.now c.loop-symbol.symbol c.index-nexts-symbol.result c.deref.result.now c.loop-symbol-test.true
    c.index-nexts-symbol.is c.deref.ensures.value in
    (known.0, c.loop-symbol.invariant.kernels known.0 known.1 known.2, subst (IsNoneOrKernel known.0) at (known.2 c.loop-symbol.symbol))

pub returns-in_err-more-clause-misfit : goal.returns-in_err-more-clause-misfit
returns-in_err-more-clause-misfit g c =
    let index = g.StorageT.StorageIndex.index in
    let symbol = c.loop-symbol.symbol in
    let nexts = c.args.nexts.now in
    let count = rows_len index nexts in
    let low : symbol < length (kernel_rows index nexts) = omega (arith, count, c.loop-symbol-test.true) in
    let at = value_at index nexts symbol c.index-nexts-symbol.result c.deref.result.now c.loop-symbol-test.true c.index-nexts-symbol.is
    c.deref.ensures.value in
    let one = c.in_err-more.ensures in
    fault_is c.from_residual.result _ c.in_err-more.field-0.0 c.from_residual.ensures.1
    (misfit_at (kernel_rows index c.args.kernels.now) (kernel_rows index c.loop-symbol.kernels) c.args.row.now (kernel_rows index nexts) symbol
    c.step_at.result (map (core_set index) c.deref.result.now) low c.step_at.ensures at c.loop-symbol.invariant.added.alike one.some one.misfit.1)

pub loop-symbol-preserved : goal.loop-symbol-preserved
loop-symbol-preserved g c =
    let index = g.StorageT.StorageIndex.index in
    let first = kernel_rows index c.args.kernels.now in
    let before = kernel_rows index c.loop-symbol.kernels in
    let after = kernel_rows index c.pass_one.new.kernels in
    let nexts = kernel_rows index c.args.nexts.now in
    let so_far = c.loop-symbol.invariant in
    let one = c.in_ok-more.ensures in
    let at = value_at index c.args.nexts.now c.loop-symbol.symbol c.index-nexts-symbol.result c.deref.result.now c.loop-symbol-test.true
    c.index-nexts-symbol.is c.deref.ensures.value in
    let grown = grown_result c.loop-symbol.grown c.in_ok-more.more c.if-grown.grown (elim c.if-grown.branch [
      | then-grown w ↦ inl (w.if-grown.true, w.grown-is ∙ w.if-grown.true)
      | else-grown w ↦ inr (w.if-grown.false, w.grown-is)
    ]) in record {
      added = added_on first before after c.args.waits.now c.loop-symbol.waits c.pass_one.new.waits so_far.added one.added;
      passed =
          passed_more c.args.row.now nexts c.loop-symbol.symbol first before after c.step_at.result (map (core_set index) c.deref.result.now)
          c.step_at.ensures at one.added.kept so_far.passed one.passed;
      kernels = λ grm are kernels.
          one.kernels grm (so_far.kernels grm are kernels) (subst (IsNoneOrKernel grm) at (kernels c.loop-symbol.symbol));
      grown =
          subst (HasGrown first c.args.waits.now after c.pass_one.new.waits) grown
          (grown_on first before after c.args.waits.now c.loop-symbol.waits c.pass_one.new.waits c.loop-symbol.grown c.in_ok-more.more so_far.grown one.grown);
    }
