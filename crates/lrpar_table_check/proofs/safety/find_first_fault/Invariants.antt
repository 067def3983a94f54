use Rattle.std.proofs.Common.{◌<◌, ℕ, get_or}
use Rattle.lrpar_table_rows.specs.Table.{states_len}
use Rattle.lrpar_table_rows.specs.Safe.{IsSafeAt}
use Rattle.lrpar_table_rows.specs.declared.condition.TheConstants.SafetyCondition.{ALL}
use Rattle.lrpar_table_check.proofs.safety.find_first_fault.Given as goal

-- the conditions so far hold everywhere
abbrev pub invariant-loop-condition : goal.invariant-loop-condition
invariant-loop-condition g l =
    (k : ℕ) (d : _) → k < l.condition-index → (s : ℕ) → s < states_len l.parts.stable.now → IsSafeAt l.parts.grm.now l.parts.sgraph.now l.parts.stable.now (get_or ALL k d) s
