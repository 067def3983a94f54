-- Kernels to which lookaheads are passed on.
use Rattle.std.specs.Prelude.{◌≡◌, ◌<◌, ◌≤◌, ◌↔◌, ◌⊎◌, ℕ, List, All, Option, Some, None, length, sum_by}
use Rattle.lrpar_grammar.specs.Grammar.{Grammar}
use Rattle.lrpar_table_first.specs.FirstRows.{total_missing}
use Rattle.lrpar_table_rows.specs.Graph.{ItemOf}
use Rattle.lrpar_table_items.specs.CoreOrder.{IsKernel}
use Rattle.lrpar_table_items.specs.Cores.{CoreSet, IsAmong, IsCoreOf}
use Rattle.lrpar_table_items.specs.Next.{kernel_at}
use Rattle.lrpar_table_merge.specs.Compatible.{HaveSameCores, lookahead_rows}

-- the list has cores of the grammar, and is a kernel as soon as it has an item
pub record IsBeginning (g : Grammar) (kernel : List CoreSet) : Type 0 where
  pub of_grammar : All (IsCoreOf g) kernel
  pub filled : (x : ItemOf) → IsAmong kernel x → IsKernel g kernel

-- each list has cores of the grammar, and is a kernel as soon as it has an item
abbrev pub AreBeginnings : Grammar → List (List CoreSet) → Type 0
AreBeginnings g kernels = All (IsBeginning g) kernels

-- how many tokens all sets of lookaheads lack
abbrev pub all_missing : List (List CoreSet) → ℕ
all_missing kernels = sum_by (λ kernel. total_missing (lookahead_rows kernel)) kernels

-- a kernel can't be passed on along a transition: there is none, or it goes to no state, or to a state with other LR(0) cores
abbrev pub IsMisfit : List (List CoreSet) → Option ℕ → List CoreSet → Type 0
IsMisfit kernels None next = Unit {0}
IsMisfit kernels (Some state) next = (length kernels ≤ state) ⊎ (¬ (HaveSameCores (kernel_at kernels state) next))

-- the items of a kernel were added to those of a state with the same LR(0) cores
pub record IsPassedTo (before : List (List CoreSet)) (state : ℕ) (next : List CoreSet) (after : List (List CoreSet)) : Type 0 where
  pub low : state < length before
  pub same : HaveSameCores (kernel_at before state) next
  pub len : length after ≡ length before
  pub cores : (s : ℕ) → HaveSameCores (kernel_at after s) (kernel_at before s)
  pub items : (s : ℕ) (x : ItemOf) → IsAmong (kernel_at after s) x ↔ (IsAmong (kernel_at before s) x ⊎ ((s ≡ state) × IsAmong next x))
