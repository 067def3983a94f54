use Rattle.lrpar_table_check.proofs.SafetyLemmas.{chains_or_memory}
use Rattle.lrpar_table_check.proofs.check.ParserData.of_safe.Goals as goal

pub returns-in-Err-clause-exact : goal.returns-in-Err-clause-exact
returns-in-Err-clause-exact g c = chains_or_memory c.args.grm c.args.stable c.args.cap c.in-Err.fault c.in-Err.ensures.fault
