use Rattle.std.proofs.Common.{below_more, arith}
use Rattle.lrpar_table_merge.specs.StoredKernels.{IsNewAt}
use Rattle.lrpar_table_merge.proofs.PassLemmas.{rows_len}
use Rattle.lrpar_table_merge.proofs.distinct.find_twins.Goals as goal

pub loop-number-preserved : goal.loop-number-preserved
loop-number-preserved g c =
    below_more (IsNewAt g.StorageT.StorageIndex.index c.args.kernels.now) c.loop-number.number c.loop-number.invariant c.in_default.ensures.none

pub returns-clause-none : goal.returns-clause-none
returns-clause-none g c =
    let len = rows_len g.StorageT.StorageIndex.index c.args.kernels.now in
    λ n low. c.loop-number.invariant n (omega (arith, low, len, c.loop-number-test.false))
