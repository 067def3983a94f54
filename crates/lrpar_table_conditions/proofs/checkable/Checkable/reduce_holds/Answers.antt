use Rattle.lrpar_table_conditions.proofs.EntryTests.{reduce_unasked}
use Rattle.lrpar_table_rows.proofs.TestLemmas.{accepted}
use Rattle.lrpar_table_conditions.proofs.checkable.Checkable.reduce_holds.Goals as goal

pub returns-in_default : goal.returns-in_default
returns-in_default g c =
    let index = g.StorageT.StorageIndex.index in
    accepted (reduce_unasked c.args.self.now.grm.now c.args.self.now.sgraph.now c.args.condition (index c.args.s.0) (index c.args.pidx.0)
    c.in_default.not-S5)
