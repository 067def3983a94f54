use Rattle.lrpar_grammar.specs.Grammar.{Nonterminal}
use Rattle.lrpar_table_conditions.proofs.EntryTests.{steps_actions, steps_each}
use Rattle.lrpar_table_conditions.proofs.checkable.Checkable.steps_from_cores.Goals as goal

pub returns-then-actions_hold : goal.returns-then-actions_hold
returns-then-actions_hold g c = (
  λ h. steps_each c.args.self.now.grm.now c.args.self.now.sgraph.now c.args.self.now.stable.now (g.StorageT.StorageIndex.index c.args.s.0) (c.actions_hold.ensures.0 c.if-actions_hold.true) (c.gotos_hold.ensures.0 h),
  λ steps. c.gotos_hold.ensures.1 (λ r next at. steps (Nonterminal r) next at),
)

pub returns-else-actions_hold : goal.returns-else-actions_hold
returns-else-actions_hold g c = (λ h. absurd (cc), λ steps. c.actions_hold.ensures.1 (steps_actions c.args.self.now.grm.now c.args.self.now.sgraph.now c.args.self.now.stable.now (g.StorageT.StorageIndex.index c.args.s.0) steps))
