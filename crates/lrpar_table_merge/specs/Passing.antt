-- Kernels that are passed on from state to state, as the code stores them. `index` is the number that a storage number represents.
use Rattle.std.specs.Prelude.{◌≡◌, ◌<◌, ℕ, Bool, List, Option, Vec, length, map}
use Rattle.std.specs.Bool.{OnFalse, OnTrue}
use Rattle.lrpar_grammar.specs.Grammar.{Grammar, GrammarSymbol}
use Rattle.lrpar_table_items.specs.Canonical.{AreSame}
use Rattle.lrpar_table_items.specs.Cores.{IsAmong, core_set}
use Rattle.lrpar_table_items.specs.ItemSets.{IsInClosure}
use Rattle.lrpar_table_items.specs.Next.{kernel_at, kernel_rows}
use Rattle.lrpar_table_items.specs.declared.cores.CoreItems.{CoreItems}
use Rattle.lrpar_table_merge.specs.Held.{GoesBy, IsHeld}
use Rattle.lrpar_table_merge.specs.MergedStates.{all_transitions}
use Rattle.lrpar_table_merge.specs.Misfits.{HasMisfitIn, HasNoStart, IsFaultOfHeld, IsStuck, IsStuckAt}
use Rattle.lrpar_table_merge.specs.PassedOn.{IsMisfit, IsPassedTo, all_missing}
use Rattle.lrpar_table_merge.specs.Propagated.{AreAdded, AreNoneOrKernels, ArePassedAlong, ArePropagated, HasGrown, EndsWaiting, HaveBegun, IsNoneOrKernel, IsPassedAlong, IsRoundTo, LeadOn}
use Rattle.lrpar_table_merge.specs.StoredKernels.{AreKernelsIfFilled, IsKernelOf, StayAlike}
use Rattle.lrpar_table_merge.specs.declared.held.HeldFault.{HeldFault}
use Rattle.lrpar_table_merge.specs.declared.held.HeldFault.TheVariants.{Misfit}
use Rattle.lrpar_table_merge.specs.declared.held.Transitions.{Transitions}

module _ {S : Type 0} (index : S → ℕ) where
  -- of some grammar, each of the lists is a kernel as soon as it has an item, and the other list is a kernel
  abbrev pub ShareGrammar : {A : Type 0} → List (Vec (CoreItems S) A) → List (CoreItems S) → Type 0
  ShareGrammar kernels next = (g : Grammar) × AreKernelsIfFilled index g kernels × IsKernelOf index g next

  -- of some grammar, each of the lists is a kernel as soon as it has an item, and the other list if it has any core
  abbrev pub ShareGrammarIfAny : {A : Type 0} → List (Vec (CoreItems S) A) → List (CoreItems S) → Type 0
  ShareGrammarIfAny kernels next = (g : Grammar) × AreKernelsIfFilled index g kernels × IsNoneOrKernel g (map (core_set index) next)

  -- of some grammar, each of the lists is a kernel as soon as it has an item, and each of the others if it has any core
  abbrev pub ShareGrammarAll : {A : Type 0} → List (Vec (CoreItems S) A) → List (Vec (CoreItems S) A) → Type 0
  ShareGrammarAll kernels nexts = (g : Grammar) × AreKernelsIfFilled index g kernels × AreNoneOrKernels g (kernel_rows index nexts)

  -- if the other list is a kernel, each list is still a kernel as soon as it has an item
  abbrev pub StayKernels : {A : Type 0} → List (Vec (CoreItems S) A) → List (CoreItems S) → List (Vec (CoreItems S) A) → Type 0
  StayKernels old next new = (g : Grammar) → AreKernelsIfFilled index g old → IsKernelOf index g next → AreKernelsIfFilled index g new

  -- if the other list is a kernel or has no cores, each list is still a kernel as soon as it has an item
  abbrev pub StayKernelsIfAny : {A : Type 0} → List (Vec (CoreItems S) A) → List (CoreItems S) → List (Vec (CoreItems S) A) → Type 0
  StayKernelsIfAny old next new =
      (g : Grammar) → AreKernelsIfFilled index g old → IsNoneOrKernel g (map (core_set index) next) → AreKernelsIfFilled index g new

  -- if each of the other lists is a kernel or has no cores, each list is still a kernel as soon as it has an item
  abbrev pub StayKernelsAll : {A : Type 0} → List (Vec (CoreItems S) A) → List (Vec (CoreItems S) A) → List (Vec (CoreItems S) A) → Type 0
  StayKernelsAll old nexts new =
      (g : Grammar) → AreKernelsIfFilled index g old → AreNoneOrKernels g (kernel_rows index nexts) → AreKernelsIfFilled index g new

  -- the items of a kernel were added to those of the state, which has the same LR(0) cores
  abbrev pub PassesTo : {A : Type 0} → ℕ → List (CoreItems S) → List (Vec (CoreItems S) A) → List (Vec (CoreItems S) A) → Type 0
  PassesTo state next old new = IsPassedTo (kernel_rows index old) state (map (core_set index) next) (kernel_rows index new)

  -- if kernels have grown, they lack fewer tokens than before
  abbrev pub LackFewerIf : {A : Type 0} → List (Vec (CoreItems S) A) → List (Vec (CoreItems S) A) → Bool → Type 0
  LackFewerIf old new grown = OnTrue grown (all_missing (kernel_rows index new) < all_missing (kernel_rows index old))

  -- if no kernel has grown, all are as before
  abbrev pub AreSameUnless : {A : Type 0} → List (Vec (CoreItems S) A) → List (Vec (CoreItems S) A) → Bool → Type 0
  AreSameUnless old new grown = OnFalse grown (kernel_rows index new ≡ kernel_rows index old)

  -- the fault is a misfit: the kernel can't be passed on along the step
  abbrev pub IsMisfitAlong : {A : Type 0} → List (Vec (CoreItems S) A) → Option ℕ → List (CoreItems S) → HeldFault → Type 0
  IsMisfitAlong kernels step next fault = (fault ≡ Misfit) × IsMisfit (kernel_rows index kernels) step (map (core_set index) next)

  -- one of the kernels of a row has cores, and can't be passed on along its step
  abbrev pub HasMisfit : {A : Type 0} → List (Vec (CoreItems S) A) → List (Option ℕ) → List (Vec (CoreItems S) A) → Type 0
  HasMisfit kernels row nexts = HasMisfitIn (kernel_rows index kernels) row (kernel_rows index nexts)

  -- the items of a kernel were added to those of the state to which the step goes, and nothing else was added
  abbrev pub PassesAlong : {A : Type 0} → Option ℕ → List (CoreItems S) → List (Vec (CoreItems S) A) → List (Vec (CoreItems S) A) → Type 0
  PassesAlong step next old new = IsPassedAlong step (map (core_set index) next) (kernel_rows index old) (kernel_rows index new)

  -- the items of each kernel of a row were added to those of the state to which its symbol leads, and nothing else was added
  abbrev pub PassesRow : {A : Type 0} → List (Option ℕ) → List (Vec (CoreItems S) A) → List (Vec (CoreItems S) A) → List (Vec (CoreItems S) A) → Type 0
  PassesRow row nexts old new = ArePassedAlong row (kernel_rows index nexts) (length nexts) (kernel_rows index old) (kernel_rows index new)

  -- items were only added; each state that got some waits, and each state that waited still waits
  abbrev pub AddsItems : {A : Type 0} → List (Vec (CoreItems S) A) → List Bool → List (Vec (CoreItems S) A) → List Bool → Type 0
  AddsItems old waited new waits = AreAdded (kernel_rows index old) waited (kernel_rows index new) waits

  -- whether kernels have grown: then they lack fewer tokens than before; otherwise, all is as before
  abbrev pub TellsGrowth : {A : Type 0} → List (Vec (CoreItems S) A) → List Bool → List (Vec (CoreItems S) A) → List Bool → Bool → Type 0
  TellsGrowth old waited new waits grown = HasGrown (kernel_rows index old) waited (kernel_rows index new) waits grown

  -- each list is a kernel as soon as it has an item, and its closure has exactly the items that the state holds
  pub record AreKernelsHeld {A : Type 0} (g : Grammar) (all : List Transitions) (kernels : List (Vec (CoreItems S) A)) : Type 0 where
    pub filled : AreKernelsIfFilled index g kernels
    pub held : (s : ℕ) → AreSame (IsInClosure g (IsAmong (kernel_at (kernel_rows index kernels) s))) (IsHeld g (GoesBy (all_transitions all)) s)

  -- the kernels kept their LR(0) cores and got what their states hold, and a transition leads on by each symbol after a dot
  pub record HavePropagated {A : Type 0} (g : Grammar) (all : List Transitions) (old new : List (Vec (CoreItems S) A)) : Type 0 where
    pub alike : StayAlike index old new
    pub held : AreKernelsHeld g all new
    pub steps : LeadOn g (GoesBy (all_transitions all)) (length new)

  -- propagation so far: state 0 has the start item, all items are held, and each state that doesn't wait was passed on
  abbrev pub IsUnderWay : {A : Type 0} → Grammar → List Transitions → List (Vec (CoreItems S) A) → List Bool → Type 0
  IsUnderWay g all kernels waits = ArePropagated g (GoesBy (all_transitions all)) (kernel_rows index kernels) waits

  -- propagation went on: it is under way, with kernels that have the same LR(0) cores
  pub record HasGoneOn {A : Type 0} (g : Grammar) (all : List Transitions) (old new : List (Vec (CoreItems S) A)) (waits : List Bool) : Type 0 where
    pub alike : StayAlike index old new
    pub propagated : IsUnderWay g all new waits

  -- propagation went on as the state was passed on; and whether kernels have grown
  pub record HasPassedOn {A : Type 0} (g : Grammar) (all : List Transitions) (state : ℕ) (old : List (Vec (CoreItems S) A)) (waited : List Bool)
      (new : List (Vec (CoreItems S) A)) (waits : List Bool) (grown : Bool) : Type 0 where
    pub goes_on : HasGoneOn g all old new waits
    pub ends : EndsWaiting state (kernel_rows index old) waited (kernel_rows index new) waits grown

  -- whether kernels have grown in a round: then they lack fewer tokens than before; otherwise they are as before, and no state waits
  abbrev pub EndsRound : {A : Type 0} → List (Vec (CoreItems S) A) → List (Vec (CoreItems S) A) → List Bool → Bool → Type 0
  EndsRound old new waits grown = IsRoundTo (kernel_rows index old) (kernel_rows index new) waits (length new) grown

  -- only state 0 has an item, the start item, and it waits
  abbrev pub BeginsAtStart : {A B : Type 0} → Grammar → List (Vec (CoreItems S) A) → Vec Bool B → Type 0
  BeginsAtStart g kernels waits = HaveBegun g (kernel_rows index kernels) waits.items

  -- if the fault is a misfit, the kernel of the start item isn't that of state 0, or there is no state
  abbrev pub IsStartFault : {A : Type 0} → Grammar → List (Vec (CoreItems S) A) → HeldFault → Type 0
  IsStartFault g kernels fault = fault ≡ Misfit → HasNoStart g (kernel_rows index kernels)

  -- if the fault is a misfit, a state with items that it holds can't be passed on by a symbol
  abbrev pub IsStuckFault : {A : Type 0} → Grammar → List Transitions → List (Vec (CoreItems S) A) → HeldFault → Type 0
  IsStuckFault g all kernels fault = fault ≡ Misfit → IsStuck g (all_transitions all) (kernel_rows index kernels)

  -- if the fault is a misfit, this state can't be passed on by a symbol
  abbrev pub IsStuckFaultAt : {A : Type 0} → Grammar → List Transitions → List (Vec (CoreItems S) A) → ℕ → HeldFault → Type 0
  IsStuckFaultAt g all kernels state fault =
      fault ≡ Misfit → (symbol : GrammarSymbol) × IsStuckAt g (all_transitions all) (kernel_rows index kernels) state symbol

  -- if the fault is a misfit, the start item isn't the kernel of state 0, or a state can't be passed on by a symbol
  abbrev pub IsPropagationFault : {A : Type 0} → Grammar → List Transitions → List (Vec (CoreItems S) A) → HeldFault → Type 0
  IsPropagationFault g all kernels fault = IsFaultOfHeld g (all_transitions all) (kernel_rows index kernels) fault
