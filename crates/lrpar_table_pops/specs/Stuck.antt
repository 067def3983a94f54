-- What a fault of the check says.
use Rattle.std.specs.Prelude.{ℕ}
use Rattle.lrpar_grammar.specs.Grammar.{Grammar}
use Rattle.lrpar_table_rows.specs.Table.{Table}
use Rattle.lrpar_table_stacks.specs.Stack.{IsStack, states_of}
use Rattle.lrpar_table_pops.specs.Completable.{IsCompletable}
use Rattle.lrpar_table_pops.specs.declared.fault.Incompletable.{Incompletable}
use Rattle.lrpar_table_pops.specs.declared.fault.Incompletable.TheVariants.{Memory, Stuck, TooMany}

-- the states of `Stuck` are a stack of the table that can't be completed
abbrev pub IsFault : {S : Type 0} → (S → ℕ) → Grammar → Table → Incompletable S → Type 0
IsFault index g table (Stuck states) = IsStack table (states_of index states.items) × ¬ (IsCompletable g table (states_of index states.items))
IsFault index g table TooMany = Unit {0}
IsFault index g table Memory = Unit {0}

-- if the premise holds, the states of `Stuck` are such a stack
abbrev pub IsFaultIf : {S : Type 0} → (S → ℕ) → Grammar → Table → Type 0 → Incompletable S → Type 0
IsFaultIf index g table premise fault = premise → IsFault index g table fault
