-- States while item sets are merged: the kernels that merging makes, from which kernel each state came, and how much is left to do.
use Rattle.std.specs.Prelude.{◌≡◌, ◌<◌, ◌≤◌, ◌+◌, ◌*◌, ◌-◌, ◌⊎◌, ℕ, Bool, true, false, IsTrue, List, [], ◌∷◌, All, Contains, Vec, length, map, slice_index_or, sum_by}
use Rattle.std.specs.Bool.{OnFalse, OnTrue}
use Rattle.lrpar_grammar.specs.Grammar.{Grammar, GrammarSymbol, prods_len}
use Rattle.lrpar_grammar.specs.Tokens.{has}
use Rattle.lrpar_table_first.specs.FirstRows.{dummy_lookahead, total_missing}
use Rattle.lrpar_table_items.specs.Canonical.{AreSame}
use Rattle.lrpar_table_items.specs.CoreOrder.{AreCores, IsKernel}
use Rattle.lrpar_table_items.specs.Cores.{CoreSet, IsAmong, IsCoreOf, core_set}
use Rattle.lrpar_table_items.specs.ItemSets.{IsInClosure, IsStartItem}
use Rattle.lrpar_table_items.specs.Next.{kernel_at, next_kernel}
use Rattle.lrpar_table_merge.specs.Compatible.{AreWeaklyCompatible, HaveSameCores, lookahead_rows, lookaheads_at}
use Rattle.lrpar_table_merge.specs.United.{AreUnited}
use Rattle.lrpar_table_merge.specs.declared.merge.MergedState.{MergedState}
use Rattle.lrpar_table_merge.specs.declared.merge.Merging.{Merging}

-- the kernels that merging can make: that of the start item, those to which the closure of such a kernel goes, and the unions of two with the
-- same LR(0) cores
pub data IsMade (g : Grammar) : List CoreSet → Type 0 where
  Starts : (kernel : List CoreSet) → AreSame (IsAmong kernel) (IsStartItem g) → IsMade g kernel
  Goes : (kernel cores : List CoreSet) (symbol : GrammarSymbol) → IsMade g kernel → AreCores g cores
      → AreSame (IsAmong cores) (IsInClosure g (IsAmong kernel)) → IsMade g (next_kernel g symbol cores)
  Unites : (kernel other both : List CoreSet) → IsMade g kernel → IsMade g other → HaveSameCores kernel other → AreUnited kernel other both
      → IsMade g both

-- merging can make more than n kernels, none of them twice
pub record MergesMore (g : Grammar) (n : ℕ) : Type 0 where
  pub kernels : List (List CoreSet)
  pub more : n < length kernels
  pub are : All (IsKernel g) kernels
  pub made : All (IsMade g) kernels
  pub once : (s other : ℕ) → s < length kernels → other < length kernels → kernel_at kernels s ≡ kernel_at kernels other → s ≡ other

-- the kernel of each state
abbrev pub kernels_of : {S : Type 0} → (S → ℕ) → List (MergedState S) → List (List CoreSet)
kernels_of index states = map (λ state. map (core_set index) state.kernel.items) states

-- a kernel has the LR(0) cores of the earlier one, and its lookaheads
pub record HasGrownFrom (before after : List CoreSet) : Type 0 where
  pub same : HaveSameCores before after
  pub tokens : (i t : ℕ) → IsTrue (has (lookaheads_at before i) t) → IsTrue (has (lookaheads_at after i) t)

-- each kernel has grown from the one for which its state was made; and no two states were made for the same kernel
pub record HaveOrigins (g : Grammar) (kernels : List (List CoreSet)) : Type 0 where
  pub origins : List (List CoreSet)
  pub len : length origins ≡ length kernels
  pub are : All (IsKernel g) origins
  pub made : All (IsMade g) origins
  pub grown : (s : ℕ) → s < length kernels → HasGrownFrom (kernel_at origins s) (kernel_at kernels s)
  pub once : (s other : ℕ) → s < length kernels → other < length kernels → kernel_at origins s ≡ kernel_at origins other → s ≡ other

-- two kernels aren't merged: they have grown from kernels that merging can make and that aren't weakly compatible
pub record IsSplit (g : Grammar) (kernel other : List CoreSet) : Type 0 where
  pub first : List CoreSet
  pub second : List CoreSet
  pub first_made : IsMade g first
  pub second_made : IsMade g second
  pub first_grown : HasGrownFrom first kernel
  pub second_grown : HasGrownFrom second other
  pub apart : ¬ (AreWeaklyCompatible first second)

-- two of the kernels have the same LR(0) cores only if they have grown from kernels that merging can make and that aren't weakly compatible
abbrev pub AreSplit : Grammar → List (List CoreSet) → Type 0
AreSplit g kernels =
    (s n : ℕ) → s < n → n < length kernels → HaveSameCores (kernel_at kernels s) (kernel_at kernels n)
    → IsSplit g (kernel_at kernels s) (kernel_at kernels n)

-- the production of the first core; of no cores, 0
abbrev pub first_prod : List CoreSet → ℕ
first_prod [] = 0
first_prod (core ∷ cores) = core.prod

-- the numbers that are listed for production p; out of range, none
abbrev pub numbers_for : {A : Type 0} → List (Vec ℕ A) → ℕ → List ℕ
numbers_for lists p = slice_index_or (map (λ list. list.items) lists) p []

-- each state is listed for the production of its kernel's first core
abbrev pub AreRegistered : {A : Type 0} → List (Vec ℕ A) → List (List CoreSet) → Type 0
AreRegistered lists kernels = (s : ℕ) → s < length kernels → Contains (numbers_for lists (first_prod (kernel_at kernels s))) s

-- none of the kernels is weakly compatible with this one
abbrev pub NoneIsCompatible : List (List CoreSet) → List CoreSet → Type 0
NoneIsCompatible kernels kernel = (s : ℕ) → s < length kernels → ¬ (AreWeaklyCompatible (kernel_at kernels s) kernel)

-- none of the kernels with these numbers is
abbrev pub NoneOfIsCompatible : List (List CoreSet) → List ℕ → List CoreSet → Type 0
NoneOfIsCompatible kernels numbers kernel =
    All (λ s. s < length kernels → ¬ (AreWeaklyCompatible (kernel_at kernels s) kernel)) numbers

-- each state has a kernel that merging can make, has grown from its own origin, and is listed; no two states could have been one; the
-- states are at most as many as both bounds; and there is a list for each production
pub record AreMerging {S : Type 0} (index : S → ℕ) (g : Grammar) (max limit : ℕ) (merging : Merging S) : Type 0 where
  pub kernels : All (IsKernel g) (kernels_of index merging.states.items)
  pub made : All (IsMade g) (kernels_of index merging.states.items)
  pub origins : HaveOrigins g (kernels_of index merging.states.items)
  pub split : AreSplit g (kernels_of index merging.states.items)
  pub listed : AreRegistered merging.by_prod.items (kernels_of index merging.states.items)
  pub room : length merging.states.items ≤ max
  pub fits : length merging.states.items ≤ limit
  pub prods : length merging.by_prod.items ≡ prods_len g

-- at most so many LR(0) cores has a grammar: one for each production and each place of the dot
abbrev pub most_cores : Grammar → ℕ
most_cores g = prods_len g * (sum_by (λ prod. length prod.symbols) g.prods + 1)

-- at most so many lookaheads does a kernel lack
abbrev pub most_missing : Grammar → ℕ
most_missing g = most_cores g * (dummy_lookahead g + 1)

-- 1 for a state that waits
abbrev pub waiting : Bool → ℕ
waiting true = 1
waiting false = 0

-- how often a state can still be worked on, with something to spare: once if it waits, and again for each lookahead that its kernel lacks
abbrev pub work_of : {S : Type 0} → (S → ℕ) → MergedState S → ℕ
work_of index state = 2 * total_missing (lookahead_rows (map (core_set index) state.kernel.items)) + waiting state.waits

-- how often states can still be worked on: those that there are, and those that can still be made
abbrev pub work_left : {S : Type 0} → (S → ℕ) → Grammar → ℕ → List (MergedState S) → ℕ
work_left index g max states = (max - length states) * (2 * most_missing g + 1) + sum_by (work_of index) states

-- merging goes on as before, and no more work is left
pub record GoesOn {S : Type 0} (index : S → ℕ) (g : Grammar) (max limit : ℕ) (before after : Merging S) : Type 0 where
  pub merging : AreMerging index g max limit after
  pub work : work_left index g max after.states.items ≤ work_left index g max before.states.items

-- state n doesn't wait afterwards, nor does any that didn't wait before
abbrev pub Rests : {S : Type 0} → ℕ → List (MergedState S) → List (MergedState S) → Type 0
Rests n before after =
    (s : ℕ) (d : MergedState _) → (slice_index_or before s d).waits ≡ false ⊎ (s ≡ n) → (slice_index_or after s d).waits ≡ false

-- whether state n waited: then less work is left; otherwise no more is left, and no state waits that didn't wait before
abbrev pub EndsTurn : {S : Type 0} → (S → ℕ) → Grammar → ℕ → ℕ → List (MergedState S) → List (MergedState S) → Bool → Type 0
EndsTurn index g max n before after waited =
    OnTrue waited (work_left index g max after < work_left index g max before)
    × OnFalse waited ((work_left index g max after ≤ work_left index g max before) × Rests n before after)

-- no state waits
abbrev pub NoneWaits : {S : Type 0} → List (MergedState S) → Type 0
NoneWaits states = All (λ state. state.waits ≡ false) states

-- whether any state waited: then less work is left; otherwise none waits
abbrev pub EndsPass : {S : Type 0} → (S → ℕ) → Grammar → ℕ → List (MergedState S) → List (MergedState S) → Bool → Type 0
EndsPass index g max before after waited =
    OnTrue waited (work_left index g max after < work_left index g max before) × OnFalse waited (NoneWaits after)

-- each of the lists has cores of the grammar
abbrev pub AreCoreRows : Grammar → List (List CoreSet) → Type 0
AreCoreRows g kernels = All (All (IsCoreOf g)) kernels

-- each of the lists is a kernel, if it has any core
abbrev pub AreKernelsOrEmpty : Grammar → List (List CoreSet) → Type 0
AreKernelsOrEmpty g kernels = All (λ kernel. 0 < length kernel → IsKernel g kernel) kernels

-- each of the lists is one that merging can make, if it has any core
abbrev pub AreMadeOrEmpty : Grammar → List (List CoreSet) → Type 0
AreMadeOrEmpty g kernels = All (λ kernel. 0 < length kernel → IsMade g kernel) kernels
