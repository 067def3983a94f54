use Rattle.std.proofs.lemmas.Result.{IfErr-weaker}
use Rattle.lrpar_table_check.specs.Checked.{Unchecked}
use Rattle.lrpar_table_check.proofs.SafetyLemmas.{fault_of_chains, only_memory}
use Rattle.lrpar_table_rows.specs.Safe.{IsSafe}
use Rattle.lrpar_table_check.proofs.check.ParserData.new.Goals as goal

pub returns-in-None-clause-fault : goal.returns-in-None-clause-fault
returns-in-None-clause-fault g c =
    let safe : IsSafe c.args.grm c.args.sgraph c.args.stable = c.in-None.ensures in
    IfErr-weaker _ _ _ (λ (r : Unchecked) is. fault_of_chains c.args.grm c.args.sgraph c.args.stable c.args.cap r.fault safe is) c.of_safe.ensures.fault

pub returns-in-Some-clause-fault : goal.returns-in-Some-clause-fault
returns-in-Some-clause-fault g c = c.in-Some.ensures c.args.cap

pub returns-in-Some-clause-exact : goal.returns-in-Some-clause-exact
returns-in-Some-clause-exact g c = only_memory c.args.grm c.args.sgraph c.args.stable c.args.cap c.in-Some.fault (c.in-Some.ensures c.args.cap)
