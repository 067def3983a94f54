use Rattle.std.proofs.Common.{◌∙◌}
use Rattle.lrpar_table_stacks.proofs.StepLemmas.{number_top}
use Rattle.lrpar_table_stacks.proofs.state_stack.VecStIdxStateStack.top.Goals as goal

pub returns : goal.returns
returns g c = number_top (λ x. g.StorageT.StorageIndex.index x.0) c.args.self.now.items c.len.result c.index.result.now c.requires (c.len.ensures ∙ c.args.self.now.ok.0) c.index.ensures
