use Rattle.lrpar_table_stacks.proofs.StepLemmas.{number_at}
use Rattle.lrpar_table_stacks.proofs.state_stack.VecStIdxStateStack.state_at.Goals as goal

pub returns : goal.returns
returns g c = number_at (λ x. g.StorageT.StorageIndex.index x.0) c.args.self.now.items c.args.at c.index.result.now c.requires c.index.ensures
