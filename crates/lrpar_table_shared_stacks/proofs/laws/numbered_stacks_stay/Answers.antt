use Rattle.lrpar_table_shared_stacks.proofs.SharedStacksLemmas.{extends_keeps}
use Rattle.lrpar_table_shared_stacks.proofs.laws.numbered_stacks_stay.Goals as goal

pub returns : goal.returns
returns c = λ old new n extends within. extends_keeps old new extends n within
