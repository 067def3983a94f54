-- States of merged item sets, from kernels and transitions that are given.
use Rattle.std.specs.Prelude.{◌≡◌, ◌≢◌, ◌<◌, ℕ, List, All, Option, Some, None, length, nat_eq}
use Rattle.std.specs.Map.{keys_of, lookup}
use Rattle.lrpar_grammar.specs.Grammar.{Grammar, GrammarSymbol, Nonterminal, Terminal, rules_len, tokens_len}
use Rattle.lrpar_table_items.specs.Canonical.{AreSame}
use Rattle.lrpar_table_items.specs.Cores.{CoreSet, IsAmong}
use Rattle.lrpar_table_items.specs.CoreOrder.{AreCores, IsKernel}
use Rattle.lrpar_table_items.specs.ItemSets.{IsInClosure}
use Rattle.lrpar_table_items.specs.Next.{kernel_at, next_kernel}
use Rattle.lrpar_table_items.specs.Resolution.{AscendFrom}
use Rattle.lrpar_table_items.specs.States.{StateOf}
use Rattle.lrpar_table_merge.specs.Compatible.{HaveSameCores}
use Rattle.lrpar_table_merge.specs.Held.{TransitionsOf, next_of}

-- a transition fits the kernel of the goto: if that has no cores, there is no transition; otherwise it leads to a kernel with the same
-- LR(0) cores, and not to the first one
abbrev pub FitsNext : List (List CoreSet) → List CoreSet → Option ℕ → Type 0
FitsNext kernels next None = length next ≡ 0
FitsNext kernels next (Some n) = (0 < length next) × (n ≢ 0) × (n < length kernels) × HaveSameCores (kernel_at kernels n) next

-- the row has the given transitions by the symbols of one kind with numbers below n, numbers ascending, and each fits the kernel of the goto
pub record AreGivenSteps (kernels : List (List CoreSet)) (next : ℕ → List CoreSet) (given : ℕ → Option ℕ) (rows : List (ℕ × ℕ)) (n : ℕ)
    : Type 0 where
  pub ascend : AscendFrom 0 (keys_of rows)
  pub below : All (λ k. k < n) (keys_of rows)
  pub same : (k : ℕ) → k < n → lookup (nat_eq k) rows ≡ given k
  pub fit : (k : ℕ) → k < n → FitsNext kernels (next k) (given k)

-- the given transitions of the cores by the grammar's symbols of one kind, of which there are n
abbrev pub AreGivenBy : Grammar → List (List CoreSet) → List CoreSet → TransitionsOf → (ℕ → GrammarSymbol) → List (ℕ × ℕ) → ℕ → Type 0
AreGivenBy g kernels cores transitions symbol rows n =
    AreGivenSteps kernels (λ k. next_kernel g (symbol k) cores) (λ k. next_of transitions (symbol k)) rows n

-- the cores are the closure of the kernel
pub record IsClosureOf (g : Grammar) (kernel cores : List CoreSet) : Type 0 where
  pub is_kernel : IsKernel g kernel
  pub items : AreSame (IsAmong cores) (IsInClosure g (IsAmong kernel))
  pub are_cores : AreCores g cores

-- a state has the closure of its kernel, and the given transitions
pub record IsGivenState (g : Grammar) (kernels : List (List CoreSet)) (transitions : TransitionsOf) (kernel : List CoreSet) (state : StateOf)
    : Type 0 where
  pub closure : IsClosureOf g kernel state.cores
  pub gotos : AreGivenBy g kernels state.cores transitions Nonterminal state.gotos (rules_len g)
  pub shifts : AreGivenBy g kernels state.cores transitions Terminal state.shifts (tokens_len g)
