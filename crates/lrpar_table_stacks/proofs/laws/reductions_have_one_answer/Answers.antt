use Rattle.lrpar_table_stacks.proofs.Reductions.{settles_one_way}
use Rattle.lrpar_table_stacks.proofs.laws.reductions_have_one_answer.Goals as goal

pub returns : goal.returns
returns c = settles_one_way
