use Rattle.std.proofs.Common.{arith}
use Rattle.lrpar_table_shared_stacks.proofs.SharedStacksLemmas.{stacks_len}
use Rattle.lrpar_table_shared_stacks.proofs.shared_stacks.SharedStacks.len.Goals as goal

pub returns-clause-len : goal.returns-clause-len
returns-clause-len g c = rw (← c.self.view_is) (omega (arith, stacks_len c.self.inside.tops.keys, c.len.ensures))
