-- Lookaheads that are passed on from state to state, until nothing grows.
use Rattle.std.specs.Prelude.{◌≡◌, ◌<◌, ◌↔◌, ◌⊎◌, ℕ, Bool, true, false, IsTrue, List, Option, Some, None, length, slice_index_or, slice_set}
use Rattle.std.specs.Bool.{OnFalse, OnTrue}
use Rattle.lrpar_grammar.specs.Grammar.{Grammar, GrammarSymbol}
use Rattle.lrpar_grammar.specs.Tokens.{has}
use Rattle.lrpar_table_rows.specs.Graph.{ItemOf}
use Rattle.lrpar_table_items.specs.Canonical.{HasAfterDot}
use Rattle.lrpar_table_items.specs.CoreOrder.{IsKernel}
use Rattle.lrpar_table_items.specs.Cores.{CoreSet, IsAmong}
use Rattle.lrpar_table_items.specs.ItemSets.{IsAdvanced, IsInClosure, IsStartItem}
use Rattle.lrpar_table_items.specs.Next.{kernel_at}
use Rattle.lrpar_table_merge.specs.Compatible.{HaveSameCores}
use Rattle.lrpar_table_merge.specs.Held.{IsHeld}
use Rattle.lrpar_table_merge.specs.PassedOn.{AreBeginnings, all_missing}

-- a list of cores is a kernel, if it has any core
abbrev pub IsNoneOrKernel : Grammar → List CoreSet → Type 0
IsNoneOrKernel g kernel = 0 < length kernel → IsKernel g kernel

-- each of the lists has no cores, or is a kernel
abbrev pub AreNoneOrKernels : Grammar → List (List CoreSet) → Type 0
AreNoneOrKernels g kernels = (n : ℕ) → IsNoneOrKernel g (kernel_at kernels n)

-- state s waits: its kernel got items that weren't passed on
abbrev pub DoesWait : List Bool → ℕ → Type 0
DoesWait waits s = IsTrue (has waits s)

-- state s was marked as waiting, if its kernel grew
abbrev pub IsMarkedIf : Bool → ℕ → List Bool → List Bool → Type 0
IsMarkedIf grown s waited waits = OnTrue grown (waits ≡ slice_set waited s true) × OnFalse grown (waits ≡ waited)

-- there are as many kernels, and each has the same LR(0) cores
pub record AreAlike (before after : List (List CoreSet)) : Type 0 where
  pub len : length after ≡ length before
  pub cores : (s : ℕ) → HaveSameCores (kernel_at after s) (kernel_at before s)

-- items were only added; each state that got some waits, and each state that waited still waits
pub record AreAdded (before : List (List CoreSet)) (waited : List Bool) (after : List (List CoreSet)) (waits : List Bool) : Type 0 where
  pub alike : AreAlike before after
  pub kept : (s : ℕ) (x : ItemOf) → IsAmong (kernel_at before s) x → IsAmong (kernel_at after s) x
  pub still : (s : ℕ) → DoesWait waited s → DoesWait waits s
  pub marked : (s : ℕ) → has waits s ≡ false → (x : ItemOf) → IsAmong (kernel_at after s) x → IsAmong (kernel_at before s) x

-- whether kernels have grown: then they lack fewer tokens than before; otherwise, all is as before
abbrev pub HasGrown : List (List CoreSet) → List Bool → List (List CoreSet) → List Bool → Bool → Type 0
HasGrown before waited after waits grown =
    OnTrue grown (all_missing after < all_missing before) × OnFalse grown ((after ≡ before) × (waits ≡ waited))

-- whether kernels have grown as a state was passed on: then they lack fewer tokens than before; otherwise they are as before, and the state
-- doesn't wait, nor does any that didn't
abbrev pub EndsWaiting : ℕ → List (List CoreSet) → List Bool → List (List CoreSet) → List Bool → Bool → Type 0
EndsWaiting state before waited after waits grown =
    OnTrue grown (all_missing after < all_missing before)
    × OnFalse grown ((after ≡ before) × (has waits state ≡ false) × ((s : ℕ) → has waited s ≡ false → has waits s ≡ false))

-- whether kernels have grown as the first n states were passed on: then they lack fewer tokens than before; otherwise they are as before,
-- and none of these states waits
abbrev pub IsRoundTo : List (List CoreSet) → List (List CoreSet) → List Bool → ℕ → Bool → Type 0
IsRoundTo before after waits n grown =
    OnTrue grown (all_missing after < all_missing before) × OnFalse grown ((after ≡ before) × ((s : ℕ) → s < n → has waits s ≡ false))

-- if a state holds an item with a symbol after its dot, it goes by the symbol to one of the first len states
abbrev pub LeadOn : Grammar → (ℕ → GrammarSymbol → ℕ → Type 0) → ℕ → Type 0
LeadOn g goes len = (s : ℕ) (symbol : GrammarSymbol) → HasAfterDot g (IsHeld g goes) s symbol → (n : ℕ) × (n < len) × goes s symbol n

-- the items of a kernel were added to those of the state to which the step goes, and nothing else was added
pub record IsPassedAlong (step : Option ℕ) (next : List CoreSet) (before after : List (List CoreSet)) : Type 0 where
  pub came : (s : ℕ) (x : ItemOf) → IsAmong (kernel_at after s) x → IsAmong (kernel_at before s) x ⊎ ((step ≡ Some s) × IsAmong next x)
  pub there : (x : ItemOf) → IsAmong next x → (s : ℕ) × (step ≡ Some s) × IsAmong (kernel_at after s) x

-- where symbol i of a kind leads; out of range, nowhere
abbrev pub step_at : List (Option ℕ) → ℕ → Option ℕ
step_at row i = slice_index_or row i None

-- the items of each of the first n kernels were added to those of the state to which its symbol leads, and nothing else was added
pub record ArePassedAlong (row : List (Option ℕ)) (nexts : List (List CoreSet)) (n : ℕ) (before after : List (List CoreSet)) : Type 0 where
  pub came : (s : ℕ) (x : ItemOf) → IsAmong (kernel_at after s) x
      → IsAmong (kernel_at before s) x ⊎ ((i : ℕ) × (step_at row i ≡ Some s) × IsAmong (kernel_at nexts i) x)
  pub there : (i : ℕ) → i < n → (x : ItemOf) → IsAmong (kernel_at nexts i) x → (s : ℕ) × (step_at row i ≡ Some s) × IsAmong (kernel_at after s) x

-- the items that a state passes on by a symbol: those of the closure of its kernel with the symbol after the dot, each advanced
abbrev pub PassesOn : Grammar → List (List CoreSet) → ℕ → GrammarSymbol → ItemOf → Type 0
PassesOn g kernels s symbol = IsAdvanced g (IsInClosure g (IsAmong (kernel_at kernels s))) symbol

-- what the state passed on came to the states to which it goes, and nothing else came
pub record IsPassedFrom (g : Grammar) (goes : ℕ → GrammarSymbol → ℕ → Type 0) (state : ℕ) (before after : List (List CoreSet)) : Type 0 where
  pub came : (s : ℕ) (x : ItemOf) → IsAmong (kernel_at after s) x
      → IsAmong (kernel_at before s) x ⊎ ((symbol : GrammarSymbol) × goes state symbol s × PassesOn g before state symbol x)
  pub there : (symbol : GrammarSymbol) (x : ItemOf) → PassesOn g before state symbol x → (s : ℕ) × goes state symbol s × IsAmong (kernel_at after s) x

-- propagation begins: only state 0 has an item, the start item, and it waits
pub record HaveBegun (g : Grammar) (kernels : List (List CoreSet)) (waits : List Bool) : Type 0 where
  pub beginnings : AreBeginnings g kernels
  pub items : (s : ℕ) (x : ItemOf) → IsAmong (kernel_at kernels s) x ↔ ((s ≡ 0) × IsStartItem g x)
  pub wait : DoesWait waits 0

-- propagation so far: state 0 has the start item, all items are held, and each state that doesn't wait was passed on
pub record ArePropagated (g : Grammar) (goes : ℕ → GrammarSymbol → ℕ → Type 0) (kernels : List (List CoreSet)) (waits : List Bool) : Type 0 where
  pub beginnings : AreBeginnings g kernels
  pub start : (x : ItemOf) → IsStartItem g x → IsAmong (kernel_at kernels 0) x
  pub held : (s : ℕ) (x : ItemOf) → IsAmong (kernel_at kernels s) x → IsHeld g goes s x
  pub passed : (s : ℕ) → has waits s ≡ false → (symbol : GrammarSymbol) (x : ItemOf) → PassesOn g kernels s symbol x
      → (n : ℕ) × goes s symbol n × IsAmong (kernel_at kernels n) x
