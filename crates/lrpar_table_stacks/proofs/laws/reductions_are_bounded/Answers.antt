use Rattle.lrpar_table_stacks.proofs.ChainLemmas.{bounds_reductions}
use Rattle.lrpar_table_stacks.proofs.laws.reductions_are_bounded.Goals as goal

pub returns : goal.returns
returns c = bounds_reductions
