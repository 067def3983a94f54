-- Why there are no counterexamples of a table with merged item sets.
use Rattle.std.specs.Prelude.{ℕ}
use Rattle.lrpar_grammar.specs.Grammar.{Grammar}
use Rattle.lrpar_table_items.specs.declared.fault.BuildFault.{BuildFault}
use Rattle.lrpar_table_items.specs.declared.fault.BuildFault.TheVariants.{AcceptReduceConflict, Memory as BuildMemory, StorageTooSmall, TooManyStates}
use Rattle.lrpar_table_build.specs.Built.{IsBuildRefusal}
use Rattle.lrpar_table_sentences.specs.Reachable.{IsFirstUnproductive}
use Rattle.lrpar_conflict_derivations.specs.declared.fault.ExampleFault.{ExampleFault}
use Rattle.lrpar_conflict_derivations.specs.declared.fault.ExampleFault.TheVariants.{Memory as ExampleMemory, Unproductive as UnproductiveRule}
use Rattle.lrpar_conflict_examples.specs.declared.merged.NoExamples.{NoExamples}
use Rattle.lrpar_conflict_examples.specs.declared.merged.NoExamples.TheVariants.{Memory, Unbuilt, Unproductive}

-- a rule is the first one that is reachable and unproductive; or there is no canonical table with at most `most` states, if the storage type
-- has `limit` numbers
abbrev pub IsReason : {S : Type 0} → (S → ℕ) → Grammar → ℕ → ℕ → NoExamples S → Type 0
IsReason index g most limit (Unproductive r) = IsFirstUnproductive g (index r.0)
IsReason index g most limit (Unbuilt fault) = IsBuildRefusal g most limit fault
IsReason index g most limit Memory = Unit {0}

-- what a fault of the builder is called here, and one of the examples of one table
abbrev pub of_build : {S : Type 0} → BuildFault → NoExamples S
of_build BuildMemory = Memory
of_build TooManyStates = Unbuilt TooManyStates
of_build StorageTooSmall = Unbuilt StorageTooSmall
of_build (AcceptReduceConflict n) = Unbuilt (AcceptReduceConflict n)

abbrev pub of_example : {S : Type 0} → ExampleFault S → NoExamples S
of_example (UnproductiveRule r) = Unproductive r
of_example ExampleMemory = Memory
