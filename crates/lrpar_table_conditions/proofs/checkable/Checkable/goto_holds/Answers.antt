use Rattle.lrpar_table_conditions.proofs.EntryTests.{goto_unasked}
use Rattle.lrpar_table_rows.proofs.TestLemmas.{accepted}
use Rattle.lrpar_table_conditions.proofs.checkable.Checkable.goto_holds.Goals as goal

pub returns-in-S4 : goal.returns-in-S4
returns-in-S4 g c = rw c.in-S4.is c.cores_follow.ensures

pub returns-in_default : goal.returns-in_default
returns-in_default g c =
    let index = g.StorageT.StorageIndex.index in
    accepted (goto_unasked c.args.self.now.grm.now c.args.self.now.sgraph.now c.args.self.now.stable.now c.args.condition (index c.args.s.0)
    (index c.args.rule.0) (index c.args.next.0) c.in_default.not-S4 c.in_default.not-S8)
