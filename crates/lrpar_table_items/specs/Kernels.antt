-- The kernels of the item sets that gotos reach from the start.
use Rattle.std.specs.Prelude.{◌≡◌, ◌<◌, ◌≤◌, ℕ, List, [], Option, Some, None, length, slice_index_or}
use Rattle.lrpar_grammar.specs.Grammar.{Grammar, GrammarSymbol}
use Rattle.lrpar_table_items.specs.CoreOrder.{IsKernel}
use Rattle.lrpar_table_items.specs.Cores.{CoreSet, IsAmong}
use Rattle.lrpar_table_items.specs.Next.{HaveAfterDot, kernel_at}
use Rattle.lrpar_table_items.specs.ItemSets.{IsAdvanced, IsInClosure, IsReachedBy}
use Rattle.lrpar_table_items.specs.Canonical.{AreSame}

-- path s; out of range, the empty one
abbrev pub path_at : List (List GrammarSymbol) → ℕ → List GrammarSymbol
path_at paths s = slice_index_or paths s []

-- the closure of the kernel is the set that the path reaches
abbrev pub IsReachedKernel : Grammar → List CoreSet → List GrammarSymbol → Type 0
IsReachedKernel g kernel path = AreSame (IsInClosure g (IsAmong kernel)) (IsReachedBy g path)

-- kernels of item sets that gotos reach, each once, and a path to each
pub record AreKernels (g : Grammar) (kernels : List (List CoreSet)) : Type 0 where
  pub paths : List (List GrammarSymbol)
  pub len : length paths ≡ length kernels
  pub each : (s : ℕ) → s < length kernels → IsKernel g (kernel_at kernels s)
  pub reached : (s : ℕ) → s < length kernels → IsReachedKernel g (kernel_at kernels s) (path_at paths s)
  pub once : (s other : ℕ) → s < length kernels → other < length kernels → kernel_at kernels s ≡ kernel_at kernels other → s ≡ other

-- the kernels before are still there, with the same numbers
pub record AreKept (before after : List (List CoreSet)) : Type 0 where
  pub len : length before ≤ length after
  pub same : (s : ℕ) → s < length before → kernel_at after s ≡ kernel_at before s

-- the transition of a state with these cores by a symbol: to one of the kernels if an item has the symbol after its dot, otherwise
-- none
abbrev pub GoesTo : Grammar → List (List CoreSet) → List CoreSet → GrammarSymbol → Option ℕ → Type 0
GoesTo g kernels cores symbol None = ¬ (HaveAfterDot g cores symbol)
GoesTo g kernels cores symbol (Some next) =
    HaveAfterDot g cores symbol × (next < length kernels) × AreSame (IsAmong (kernel_at kernels next)) (IsAdvanced g (IsAmong cores) symbol)
