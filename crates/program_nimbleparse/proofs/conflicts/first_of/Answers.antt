use Rattle.program_nimbleparse.proofs.FirstLemmas.{first_fit}
use Rattle.program_nimbleparse.proofs.conflicts.first_of.Goals as goal

pub returns : goal.returns
returns c = λ g fit. first_fit g _ c.args.examples.now fit
