use Rattle.std.proofs.Common.{◌<◌, ℕ}
use Rattle.lrpar_table_merge.specs.StoredKernels.{IsNewAt}
use Rattle.lrpar_table_merge.proofs.distinct.find_twins.Given as goal

-- each of the kernels so far is none of those before it
abbrev pub invariant-loop-number : goal.invariant-loop-number
invariant-loop-number g l = (n : ℕ) → n < l.number → IsNewAt g.StorageT.StorageIndex.index l.kernels n
