-- What is built with a choice is safe; and why it isn't built.
use Rattle.std.proofs.Common.{ℕ, inl, inr}
use Rattle.lrpar_grammar.specs.Grammar.{Grammar, IsWellFormed}
use Rattle.lrpar_table_precedence.specs.Precedence.{PrecedenceLists}
use Rattle.lrpar_table_rows.specs.Graph.{Graph}
use Rattle.lrpar_table_rows.specs.Safe.{IsSafe}
use Rattle.lrpar_table_rows.specs.Table.{Table}
use Rattle.lrpar_table_items.specs.declared.fault.BuildFault.{BuildFault}
use Rattle.lrpar_table_items.specs.declared.fault.BuildFault.TheVariants.{AcceptReduceConflict, Memory, StorageTooSmall, TooManyStates}
use Rattle.lrpar_table_build.specs.Built.{HasAcceptConflict, IsBuildRefusal}
use Rattle.lrpar_table_merge.specs.MergedBy.{HasMergedAcceptConflict, IsTableRefusal}
use Rattle.lrpar_table_merge.specs.Minimised.{IsMergeFault, IsMergingRefusal, IsMinimisedBy}
use Rattle.lrpar_table_merge.specs.declared.build.Minimiser.{Minimiser}
use Rattle.lrpar_table_merge.specs.declared.build.Minimiser.TheVariants.{Canonical, Pager}
use Rattle.lrpar_table_merge.proofs.BuiltMergedLemmas.{merged_sets, steps}
use Rattle.lrpar_table_merge.proofs.MergedSafeLemmas.{merged_tables_by_precedences_are_safe}

module _ (g : Grammar) (well : IsWellFormed g) where
  -- an accept/reduce conflict of the canonical collection is one of merged item sets
  canonical_conflict : (n : ℕ) → HasAcceptConflict g n → HasMergedAcceptConflict g n
  canonical_conflict n h = record {
    graph = h.0;
    steps = steps g h.0 well h.1;
    merged = merged_sets g h.0 well h.1;
    within = h.2;
    conflict = h.3;
  }

  -- so what refuses the canonical table is a reason to refuse a merged one
  pub canonical_refusal : (most limit : ℕ) (fault : BuildFault) → IsBuildRefusal g most limit fault → IsMergingRefusal g most limit fault
  canonical_refusal most limit TooManyStates h = inr h
  canonical_refusal most limit StorageTooSmall h = inr h
  canonical_refusal most limit (AcceptReduceConflict n) h = canonical_conflict n h
  canonical_refusal most limit Memory h = tt

  -- what is built is safe
  pub minimised_safe : (minimiser : Minimiser) (lists : PrecedenceLists) (graph : Graph) (table : Table)
      → IsMinimisedBy minimiser g lists graph table → IsSafe g graph table
  minimised_safe Canonical lists graph table built = built.safe
  minimised_safe Pager lists graph table merged =
      merged_tables_by_precedences_are_safe g lists graph table merged.steps well merged.merged merged.resolution

module _ (g : Grammar) (most limit : ℕ) where
  pub merged_refusal_of : (fault : BuildFault) → IsTableRefusal g fault → IsMergingRefusal g most limit fault
  merged_refusal_of TooManyStates h = absurd h
  merged_refusal_of StorageTooSmall h = absurd h
  merged_refusal_of (AcceptReduceConflict n) h = h
  merged_refusal_of Memory h = tt

  pub merge_fault_refusal : (fault : BuildFault) → IsMergeFault g most limit fault → IsMergingRefusal g most limit fault
  merge_fault_refusal TooManyStates h = inl h
  merge_fault_refusal StorageTooSmall h = inl h
  merge_fault_refusal (AcceptReduceConflict n) h = absurd h
  merge_fault_refusal Memory h = tt
