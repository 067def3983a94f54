use Rattle.lrpar_table_conditions.proofs.EntryTests.{never_actions, never_each, never_gotos}
use Rattle.lrpar_table_conditions.proofs.checkable.Checkable.goes_never_back.Goals as goal

pub returns-then-actions_hold : goal.returns-then-actions_hold
returns-then-actions_hold g c = (
  λ h. never_each c.args.self.now.grm.now c.args.self.now.sgraph.now c.args.self.now.stable.now (g.StorageT.StorageIndex.index c.args.s.0) (c.actions_hold.ensures.0 c.if-actions_hold.true) (c.gotos_hold.ensures.0 h),
  λ never. c.gotos_hold.ensures.1 (never_gotos c.args.self.now.grm.now c.args.self.now.sgraph.now c.args.self.now.stable.now (g.StorageT.StorageIndex.index c.args.s.0) never),
)

pub returns-else-actions_hold : goal.returns-else-actions_hold
returns-else-actions_hold g c = (λ h. absurd (cc), λ never. c.actions_hold.ensures.1 (never_actions c.args.self.now.grm.now c.args.self.now.sgraph.now c.args.self.now.stable.now (g.StorageT.StorageIndex.index c.args.s.0) never))
