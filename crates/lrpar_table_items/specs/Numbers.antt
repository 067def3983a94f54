-- Kernels and their numbers, which are the numbers of states.
use Rattle.std.specs.Prelude.{◌≡◌, ◌<◌, ◌≤◌, ◌⊎◌, ◌++◌, ℕ, List, [], ◌∷◌, Option, Some, None, length}
use Rattle.lrpar_grammar.specs.Grammar.{Grammar}
use Rattle.lrpar_table_items.specs.Canonical.{ReachesMore}
use Rattle.lrpar_table_items.specs.Cores.{CoreSet}
use Rattle.lrpar_table_items.specs.Kernels.{AreKernels}
use Rattle.lrpar_table_items.specs.KernelMap.{IsFound, IsFresh}
use Rattle.lrpar_table_items.specs.declared.fault.BuildFault.{BuildFault}
use Rattle.lrpar_table_items.specs.declared.fault.BuildFault.TheVariants.{AcceptReduceConflict, Memory, StorageTooSmall, TooManyStates}

-- the kernel had no number, and got the next one, which is below both bounds
pub record IsPushed (max limit : ℕ) (before : List (List CoreSet)) (kernel : List CoreSet) (after : List (List CoreSet)) : Type 0 where
  pub fresh : IsFresh before kernel
  pub room : length before < max
  pub fits : length before < limit
  pub is : after ≡ before ++ kernel ∷ []

-- the kernel was found with this number, or was new and got it
pub record IsNumberOf (max limit : ℕ) (before : List (List CoreSet)) (kernel : List CoreSet) (number : ℕ) (after : List (List CoreSet)) : Type 0 where
  pub found : IsFound after kernel number
  pub kernels : (after ≡ before) ⊎ IsPushed max limit before kernel after

-- the kernel has no number, and gets none, as a bound is reached; or an allocation failed
abbrev pub IsNumberFault : ℕ → ℕ → List (List CoreSet) → List CoreSet → BuildFault → Type 0
IsNumberFault max limit kernels kernel TooManyStates = IsFresh kernels kernel × (max ≤ length kernels)
IsNumberFault max limit kernels kernel StorageTooSmall = IsFresh kernels kernel × (limit ≤ length kernels)
IsNumberFault max limit kernels kernel Memory = Unit {0}
IsNumberFault max limit kernels kernel (AcceptReduceConflict s) = ⊥

-- a transition to a kernel leads to the kernel's number, found or new; if the kernel has no cores, there is none
abbrev pub IsStepTo : ℕ → ℕ → List (List CoreSet) → List CoreSet → Option ℕ → List (List CoreSet) → Type 0
IsStepTo max limit before kernel None after = (length kernel ≡ 0) × (after ≡ before)
IsStepTo max limit before kernel (Some number) after = (0 < length kernel) × IsNumberOf max limit before kernel number after

-- why a transition can't be made: its kernel has cores, but gets no number
abbrev pub IsStepFault : ℕ → ℕ → List (List CoreSet) → List CoreSet → BuildFault → Type 0
IsStepFault max limit kernels kernel fault = (0 < length kernel) × IsNumberFault max limit kernels kernel fault

-- kernels of item sets that gotos reach, at most as many as either bound
pub record AreNumbered (g : Grammar) (max limit : ℕ) (kernels : List (List CoreSet)) : Type 0 where
  pub are : AreKernels g kernels
  pub room : length kernels ≤ max
  pub fits : length kernels ≤ limit

-- why states aren't built: gotos reach more item sets than a bound allows, or an allocation failed
abbrev pub IsFaultOfStates : Grammar → ℕ → ℕ → BuildFault → Type 0
IsFaultOfStates g max limit TooManyStates = ReachesMore g max
IsFaultOfStates g max limit StorageTooSmall = ReachesMore g limit
IsFaultOfStates g max limit Memory = Unit {0}
IsFaultOfStates g max limit (AcceptReduceConflict s) = ⊥
