use Rattle.lrpar_table_conditions.proofs.EntryTests.{reduces_each}
use Rattle.lrpar_table_conditions.proofs.checkable.Checkable.reduces_complete.Goals as goal

pub returns : goal.returns
returns g c =
    let each = reduces_each c.args.self.now.grm.now c.args.self.now.sgraph.now c.args.self.now.stable.now (g.StorageT.StorageIndex.index c.args.s.0) in
    (λ h. each.0 (c.actions_hold.ensures.0 h), λ holds. c.actions_hold.ensures.1 (each.1 holds))
