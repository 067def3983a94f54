-- Facts of states, their numbers and their transitions as the code stores them. `index` is the number that a storage number represents.
use Rattle.std.specs.Prelude.{◌≤◌, ℕ, List, Option, length, map}
use Rattle.std.specs.Option.{option_map}
use Rattle.std.specs.declared.vec.Vec.{Vec}
use Rattle.lrpar_grammar_places.specs.declared.span.RIdx.{RIdx}
use Rattle.lrpar_grammar_places.specs.declared.span.StIdx.{StIdx}
use Rattle.lrpar_grammar_places.specs.declared.span.TIdx.{TIdx}
use Rattle.lrpar_grammar.specs.Grammar.{Grammar, GrammarSymbol, Nonterminal, Terminal}
use Rattle.lrpar_table_rows.specs.PlainRows.{goto_entry}
use Rattle.lrpar_table_items.specs.Canonical.{AreSame}
use Rattle.lrpar_table_items.specs.CoreOrder.{AreCores, IsStartCore}
use Rattle.lrpar_table_items.specs.Cores.{CoreSet, IsAmong, core_set}
use Rattle.lrpar_table_items.specs.ItemSets.{IsInClosure, IsReachedBy}
use Rattle.lrpar_table_items.specs.Kernels.{AreKept}
use Rattle.lrpar_table_items.specs.Next.{kernel_at}
use Rattle.lrpar_table_items.specs.Numbers.{AreNumbered, IsNumberFault, IsNumberOf, IsStepFault, IsStepTo}
use Rattle.lrpar_table_items.specs.Resolution.{shift_entry}
use Rattle.lrpar_table_items.specs.States.{AreStates, AreSteps, IsExpanded, StartsRight, state_of, step_entry}
use Rattle.lrpar_table_items.specs.Working.{AreSuccessors}
use Rattle.lrpar_table_items.specs.declared.cores.CoreItems.{CoreItems}
use Rattle.lrpar_table_items.specs.declared.fault.BuildFault.{BuildFault}
use Rattle.lrpar_table_items.specs.declared.item_set.State.{State}
use Rattle.lrpar_table_items.specs.declared.successors.Successors.{Successors}

-- there are at most n states
abbrev pub HasAtMost : {X A : Type 0} → ℕ → Vec X A → Type 0
HasAtMost n xs = length xs.items ≤ n

-- kernels of item sets that gotos reach, at most as many as either bound; those before have kept their numbers
pub record AreNumberedOn (g : Grammar) (max limit : ℕ) (before after : List (List CoreSet)) : Type 0 where
  pub numbered : AreNumbered g max limit after
  pub kept : AreKept before after

-- kernels of item sets that gotos reach, the first one that of the start item, at most as many as either bound
pub record AreStartKernels (g : Grammar) (max limit : ℕ) (kernels : List (List CoreSet)) : Type 0 where
  pub numbered : AreNumbered g max limit kernels
  pub starts : StartsRight g kernels

-- an item set that a path reaches, by cores of the grammar in order, and the kernels to which it goes
pub record IsReachedSet {S : Type 0} (index : S → ℕ) (g : Grammar) (successors : Successors S) : Type 0 where
  pub are : AreSuccessors index g successors
  pub cores : AreCores g (map (core_set index) successors.items.items)
  pub path : List GrammarSymbol
  pub reached : AreSame (IsAmong (map (core_set index) successors.items.items)) (IsReachedBy g path)

-- the item set is the closure of the kernel with this number, which a path reaches
pub record IsSetAt {S : Type 0} (index : S → ℕ) (g : Grammar) (kernels : List (List CoreSet)) (number : ℕ) (successors : Successors S) : Type 0 where
  pub is : IsReachedSet index g successors
  pub closure : AreSame (IsAmong (map (core_set index) successors.items.items)) (IsInClosure g (IsAmong (kernel_at kernels number)))

-- the item set's transitions, ascending: those by all rules, and those by all tokens. Kernels to which they lead and that are new have numbers.
pub record AreAllSteps {S A B : Type 0} (index : S → ℕ) (g : Grammar) (max limit : ℕ) (old new : List (List CoreSet)) (successors : Successors S)
    (rows : Vec (RIdx S × StIdx S) A × Vec (TIdx S × StIdx S) B) : Type 0 where
  pub kernels : AreNumberedOn g max limit old new
  pub gotos : AreSteps g new (map (core_set index) successors.items.items) Nonterminal (map (goto_entry index) rows.0.items)
  pub shifts : AreSteps g new (map (core_set index) successors.items.items) Terminal (map (shift_entry index) rows.1.items)

-- the state's items are the closure of the kernel with this number, and its transitions lead to kernels, of which those that are new have
-- numbers
pub record IsStateAt {S : Type 0} (index : S → ℕ) (g : Grammar) (max limit : ℕ) (old new : List (List CoreSet)) (number : ℕ) (state : State S) : Type 0 where
  pub kernels : AreNumberedOn g max limit old new
  pub expanded : IsExpanded g new (kernel_at old number) (state_of index state)

module _ {S : Type 0} (index : S → ℕ) where
  -- the core of the start item
  abbrev pub IsStartCoreOf : Grammar → CoreItems S → Type 0
  IsStartCoreOf g core = IsStartCore g (core_set index core)

  -- the kernel was found with this number, or was new and got it
  abbrev pub GetsNumber : ℕ → ℕ → List (List CoreSet) → List (List CoreSet) → List (CoreItems S) → StIdx S → Type 0
  GetsNumber max limit old new kernel state = IsNumberOf max limit old (map (core_set index) kernel) (index state.0) new

  -- why the kernel gets no number
  abbrev pub IsNumberFaultOf : ℕ → ℕ → List (List CoreSet) → List (CoreItems S) → BuildFault → Type 0
  IsNumberFaultOf max limit kernels kernel = IsNumberFault max limit kernels (map (core_set index) kernel)

  -- the state of the kernel to which a transition leads, found or new; none if the kernel has no cores
  abbrev pub StepsTo : ℕ → ℕ → List (List CoreSet) → List (List CoreSet) → List (CoreItems S) → Option (StIdx S) → Type 0
  StepsTo max limit old new kernel next =
      IsStepTo max limit old (map (core_set index) kernel) (option_map (λ state. index state.0) next) new

  -- why a transition to the kernel can't be made
  abbrev pub IsStepFaultOf : ℕ → ℕ → List (List CoreSet) → List (CoreItems S) → BuildFault → Type 0
  IsStepFaultOf max limit kernels kernel = IsStepFault max limit kernels (map (core_set index) kernel)

  -- the item sets of the states are the canonical collection, and their transitions are its
  abbrev pub AreStatesOf : {A : Type 0} → Grammar → Vec (State S) A → Type 0
  AreStatesOf g states = AreStates g (map (state_of index) states.items)

  -- the item set's transitions by all symbols of one kind, numbers ascending
  abbrev pub AreStepsBy : {K A : Type 0} → (K → ℕ) → (ℕ → GrammarSymbol) → Grammar → List (List CoreSet) → Successors S
      → Vec (K × StIdx S) A → Type 0
  AreStepsBy number symbol g kernels successors rows =
      AreSteps g kernels (map (core_set index) successors.items.items) symbol (map (step_entry number index) rows.items)
