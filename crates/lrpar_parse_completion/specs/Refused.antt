-- Why there is no completion of a table's stacks.
use Rattle.std.specs.Prelude.{ℕ}
use Rattle.lrpar_table_check.specs.Checked.{Checked}
use Rattle.lrpar_table_conditions.specs.Complete.{IsFirstFault}
use Rattle.lrpar_table_sentences.specs.Reachable.{EachReachableHasTree, IsFirstUnproductive}
use Rattle.lrpar_parse_completion.specs.declared.fault.NoCompletion.{NoCompletion}
use Rattle.lrpar_parse_completion.specs.declared.fault.NoCompletion.TheVariants.{Unproductive, Incomplete, Memory}

-- the first reachable rule that is unproductive; or, if there is none, the first condition of a complete table that fails; `Memory` says
-- nothing of the table
abbrev pub IsNoCompletion : {S : Type 0} → (S → ℕ) → Checked → NoCompletion S → Type 0
IsNoCompletion index d (Unproductive rule) = IsFirstUnproductive d.grammar (index rule.0)
IsNoCompletion index d (Incomplete condition s) = EachReachableHasTree d.grammar × IsFirstFault d.grammar d.graph d.table condition s
IsNoCompletion index d Memory = Unit {0}
