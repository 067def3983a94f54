-- The item set of a kernel while states are merged.
use Rattle.std.specs.Prelude.{ℕ, List, map}
use Rattle.lrpar_grammar.specs.Grammar.{Grammar}
use Rattle.lrpar_table_items.specs.Canonical.{AreSame}
use Rattle.lrpar_table_items.specs.CoreOrder.{AreCores}
use Rattle.lrpar_table_items.specs.Cores.{CoreSet, IsAmong, core_set}
use Rattle.lrpar_table_items.specs.ItemSets.{IsInClosure}
use Rattle.lrpar_table_items.specs.Working.{AreSuccessors}
use Rattle.lrpar_table_items.specs.declared.cores.CoreItems.{CoreItems}
use Rattle.lrpar_table_items.specs.declared.successors.Successors.{Successors}

-- the closure of the kernel, and the kernels to which it goes
pub record IsExpanded {S : Type 0} (index : S → ℕ) (g : Grammar) (kernel : List CoreSet) (successors : Successors S) : Type 0 where
  pub cores : AreCores g (map (core_set index) successors.items.items)
  pub items : AreSame (IsAmong (map (core_set index) successors.items.items)) (IsInClosure g (IsAmong kernel))
  pub next : AreSuccessors index g successors

-- these are the closure of this kernel, and the kernels to which it goes
abbrev pub ExpandsKernel : {S : Type 0} → (S → ℕ) → Grammar → List (CoreItems S) → Successors S → Type 0
ExpandsKernel index g kernel successors = IsExpanded index g (map (core_set index) kernel) successors
