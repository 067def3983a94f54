-- Why there are no counterexamples of a table with merged item sets, by why a lower call failed.
use Rattle.std.proofs.Common.{◌≡◌, ℕ, IfErr, IsErrAnd, Result, Ok, Err, subst, sym}
use Rattle.lrpar_grammar.specs.Grammar.{Grammar}
use Rattle.lrpar_table_items.specs.declared.fault.BuildFault.{BuildFault}
use Rattle.lrpar_table_items.specs.declared.fault.BuildFault.TheVariants.{AcceptReduceConflict, Memory as BuildMemory, StorageTooSmall, TooManyStates}
use Rattle.lrpar_table_build.specs.Built.{IsBuildRefusal}
use Rattle.lrpar_conflict_derivations.specs.Example.{IsFault}
use Rattle.lrpar_conflict_derivations.specs.declared.fault.ExampleFault.{ExampleFault}
use Rattle.lrpar_conflict_derivations.specs.declared.fault.ExampleFault.TheVariants.{Memory as ExampleMemory, Unproductive as UnproductiveRule}
use Rattle.lrpar_conflict_examples.specs.NoExamples.{IsReason, of_build, of_example}
use Rattle.lrpar_conflict_examples.specs.declared.merged.NoExamples.{NoExamples}

module _ {S : Type 0} (index : S → ℕ) (g : Grammar) (most limit : ℕ) where
  pub build_reason : (fault : BuildFault) → IsBuildRefusal g most limit fault → IsReason index g most limit (of_build fault)
  build_reason BuildMemory is = tt
  build_reason TooManyStates is = is
  build_reason StorageTooSmall is = is
  build_reason (AcceptReduceConflict n) is = is

  pub example_reason : (fault : ExampleFault S) → IsFault index g fault → IsReason index g most limit (of_example fault)
  example_reason (UnproductiveRule r) is = is
  example_reason ExampleMemory is = tt

  -- a result that gives such a fault on
  pub if_build : {T : Type 0} (result : Result T (NoExamples S)) (fault : BuildFault) → IsErrAnd result (λ reason. reason ≡ of_build fault)
      → IsBuildRefusal g most limit fault → IfErr result (IsReason index g most limit)
  if_build (Ok x) fault same is = absurd same
  if_build (Err reason) fault same is = subst (IsReason index g most limit) (sym same) (build_reason fault is)

  pub if_example : {T : Type 0} (result : Result T (NoExamples S)) (fault : ExampleFault S) → IsErrAnd result (λ reason. reason ≡ of_example fault)
      → IsFault index g fault → IfErr result (IsReason index g most limit)
  if_example (Ok x) fault same is = absurd same
  if_example (Err reason) fault same is = subst (IsReason index g most limit) (sym same) (example_reason fault is)
