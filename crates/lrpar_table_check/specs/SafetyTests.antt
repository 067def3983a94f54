-- What the tests of the safety conditions decide of the parts that are checked.
use Rattle.std.specs.Prelude.{◌<◌, ℕ, MatchOption, Option}
use Rattle.lrpar_table_conditions.specs.declared.checkable.Checkable.{Checkable}
use Rattle.lrpar_table_rows.specs.Safe.{HasShape, IsSafe, IsSafeAt}
use Rattle.lrpar_table_rows.specs.Table.{states_len}
use Rattle.lrpar_table_rows.specs.declared.condition.SafetyCondition.{SafetyCondition}
use Rattle.lrpar_table_check.specs.Checked.{IsCheckFault}
use Rattle.lrpar_table_check.specs.declared.fault.CheckFault.{CheckFault}

module _ {S : Type 0} (parts : Checkable S) where
  -- the grammar, the graph and the table have the shape that the check needs
  abbrev pub HaveShape : Type 0
  HaveShape = HasShape parts.grm.now parts.sgraph.now parts.stable.now

  -- the condition holds at state s
  abbrev pub HoldsAt : SafetyCondition → ℕ → Type 0
  HoldsAt condition s = IsSafeAt parts.grm.now parts.sgraph.now parts.stable.now condition s

  -- a state at which the condition fails; or none, since it holds at each
  abbrev pub IsUnsafeState : SafetyCondition → Option ℕ → Type 0
  IsUnsafeState condition found =
      MatchOption found ((s : ℕ) → s < states_len parts.stable.now → HoldsAt condition s)
      (λ s. (s < states_len parts.stable.now) × ¬ (HoldsAt condition s))

  -- a fault, whatever the cap; or none, since they are safe
  abbrev pub IsSafetyFault : Option CheckFault → Type 0
  IsSafetyFault found =
      MatchOption found (IsSafe parts.grm.now parts.sgraph.now parts.stable.now)
      (λ fault. (cap : ℕ) → IsCheckFault parts.grm.now parts.sgraph.now parts.stable.now cap fault)
