use Rattle.lrpar_table_conditions.proofs.EntryTests.{never_shifts_end_each}
use Rattle.lrpar_table_conditions.proofs.checkable.Checkable.never_shifts_end.Goals as goal

pub returns : goal.returns
returns g c =
    let each = never_shifts_end_each c.args.self.now.grm.now c.args.self.now.sgraph.now c.args.self.now.stable.now (g.StorageT.StorageIndex.index c.args.s.0) in
    (λ h. each.0 (c.actions_hold.ensures.0 h), λ holds. c.actions_hold.ensures.1 (each.1 holds))
