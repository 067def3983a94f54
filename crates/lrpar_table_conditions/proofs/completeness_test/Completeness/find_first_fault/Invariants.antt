use Rattle.std.proofs.Common.{◌<◌, ℕ, get_or}
use Rattle.lrpar_table_rows.specs.Table.{states_len}
use Rattle.lrpar_table_conditions.specs.Complete.{IsCompleteAt}
use Rattle.lrpar_table_conditions.specs.Itemwise.{AreReady}
use Rattle.lrpar_table_conditions.specs.declared.completeness.TheConstants.CompletenessCondition.{ALL}
use Rattle.lrpar_table_conditions.proofs.completeness_test.Completeness.find_first_fault.Given as goal

-- the conditions so far hold everywhere
abbrev pub invariant-loop-condition : goal.invariant-loop-condition
invariant-loop-condition g l =
    AreReady l.self.grm.now l.sets
    × ((k : ℕ) (d : _) → k < l.condition-index → (s : ℕ) → s < states_len l.self.stable.now
    → IsCompleteAt l.self.grm.now l.self.sgraph.now l.self.stable.now (get_or ALL k d) s)
