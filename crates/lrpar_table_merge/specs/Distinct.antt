-- Kernels, and item sets, of which no two are the same.
use Rattle.std.specs.Prelude.{◌≡◌, ◌<◌, ℕ, List, length}
use Rattle.lrpar_table_rows.specs.Graph.{Graph, ItemOf, graph_len}
use Rattle.lrpar_table_rows.specs.Table.{Table}
use Rattle.lrpar_table_items.specs.Canonical.{AreSame, sets_of}
use Rattle.lrpar_table_items.specs.Cores.{CoreSet}
use Rattle.lrpar_table_items.specs.Next.{kernel_at}

-- kernel n is none of those before it
abbrev pub IsNew : List (List CoreSet) → ℕ → Type 0
IsNew kernels n = (s : ℕ) → s < n → ¬ (kernel_at kernels s ≡ kernel_at kernels n)

-- no two of the kernels have the same cores with the same lookaheads
abbrev pub AreNew : List (List CoreSet) → Type 0
AreNew kernels = (n : ℕ) → n < length kernels → IsNew kernels n

-- no two of the sets numbered below len have the same items
abbrev pub AreDistinct : ℕ → (ℕ → ItemOf → Type 0) → Type 0
AreDistinct len sets = (s other : ℕ) → s < len → other < len → AreSame (sets s) (sets other) → s ≡ other

-- no two states of the graph have the same items
abbrev pub HaveDistinctStates : Graph × Table → Type 0
HaveDistinctStates built = AreDistinct (graph_len built.0) (sets_of built.0)
