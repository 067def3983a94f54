use Rattle.lrpar_table_conditions.proofs.EntryTests.{accept_unasked}
use Rattle.lrpar_table_rows.proofs.TestLemmas.{accepted}
use Rattle.lrpar_table_conditions.proofs.checkable.Checkable.accept_holds.Goals as goal

pub returns-in_default : goal.returns-in_default
returns-in_default g c =
    let index = g.StorageT.StorageIndex.index in
    accepted (accept_unasked c.args.self.now.grm.now c.args.self.now.sgraph.now c.args.condition (index c.args.s.0) (index c.args.token.0)
    c.in_default.not-S7)
