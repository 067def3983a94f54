-- States of merged item sets as the code stores them, and those of a merging. `index` is the number that a storage number represents.
use Rattle.std.specs.Prelude.{◌≡◌, ◌<◌, ℕ, List, All, Option, None, Vec, length, map, slice_index_or}
use Rattle.std.specs.Option.{option_map}
use Rattle.lrpar_grammar_places.specs.declared.span.RIdx.{RIdx}
use Rattle.lrpar_grammar_places.specs.declared.span.StIdx.{StIdx}
use Rattle.lrpar_grammar_places.specs.declared.span.TIdx.{TIdx}
use Rattle.lrpar_grammar.specs.Grammar.{Grammar, Nonterminal, Terminal, rules_len, tokens_len}
use Rattle.lrpar_table_rows.specs.PlainRows.{goto_entry}
use Rattle.lrpar_table_items.specs.CoreOrder.{IsKernel}
use Rattle.lrpar_table_items.specs.Cores.{core_set}
use Rattle.lrpar_table_items.specs.Next.{kernel_at, kernel_rows}
use Rattle.lrpar_table_items.specs.Resolution.{shift_entry}
use Rattle.lrpar_table_items.specs.States.{state_of, step_entry}
use Rattle.lrpar_table_items.specs.declared.cores.CoreItems.{CoreItems}
use Rattle.lrpar_table_items.specs.declared.item_set.State.{State}
use Rattle.lrpar_table_items.specs.declared.successors.Successors.{Successors}
use Rattle.lrpar_table_merge.specs.Compatible.{AreWeaklyCompatible}
use Rattle.lrpar_table_merge.specs.Held.{transitions_at}
use Rattle.lrpar_table_merge.specs.MergedStates.{AreMergedStates, all_transitions, transitions_of}
use Rattle.lrpar_table_merge.specs.MergedSteps.{AreGivenBy, AreGivenSteps, FitsNext, IsGivenState}
use Rattle.lrpar_table_merge.specs.Merging.{AreSplit, NoneIsCompatible, NoneOfIsCompatible, kernels_of}
use Rattle.lrpar_table_merge.specs.StoredKernels.{HaveCores}
use Rattle.lrpar_table_merge.specs.declared.held.HeldFault.{HeldFault}
use Rattle.lrpar_table_merge.specs.declared.held.HeldFault.TheVariants.{Misfit}
use Rattle.lrpar_table_merge.specs.declared.held.Transitions.{Transitions}
use Rattle.lrpar_table_merge.specs.declared.merge.MergedState.{MergedState}
use Rattle.lrpar_table_merge.specs.declared.merge.Merging.{Merging}

module _ {S : Type 0} (index : S → ℕ) where
  -- the item sets of the states are merged ones, no two of which have the same items, and their transitions go along their rows
  abbrev pub AreStatesOf : {A : Type 0} → Grammar → Vec (State S) A → Type 0
  AreStatesOf g states = AreMergedStates g (map (state_of index) states.items)

  -- the state has the closure of its kernel, which is the one with the number, and the given transitions
  abbrev pub IsStateAt : {A : Type 0} → Grammar → List (Vec (CoreItems S) A) → List Transitions → ℕ → State S → Type 0
  IsStateAt g kernels all number state =
      IsGivenState g (kernel_rows index kernels) (transitions_at (all_transitions all) number) (kernel_at (kernel_rows index kernels) number)
      (state_of index state)

  -- the first list has the given transitions of the item set by rules
  abbrev pub HasGivenGotos : {A B C : Type 0} → Grammar → List (Vec (CoreItems S) A) → Successors S → Transitions → Vec (RIdx S × StIdx S) B × C → Type 0
  HasGivenGotos g kernels successors transitions rows =
      AreGivenBy g (kernel_rows index kernels) (map (core_set index) successors.items.items) (transitions_of transitions) Nonterminal
      (map (goto_entry index) rows.0.items) (rules_len g)

  -- the second list has the given transitions of the item set by tokens
  abbrev pub HasGivenShifts : {A B C : Type 0} → Grammar → List (Vec (CoreItems S) A) → Successors S → Transitions → B × Vec (TIdx S × StIdx S) C → Type 0
  HasGivenShifts g kernels successors transitions rows =
      AreGivenBy g (kernel_rows index kernels) (map (core_set index) successors.items.items) (transitions_of transitions) Terminal
      (map (shift_entry index) rows.1.items) (tokens_len g)

  -- the rows have the next states of this row by the symbols with numbers below len, ascending, and each fits the kernel that is reached
  abbrev pub HasGivenSteps : {A B K : Type 0} → (K → ℕ) → List (Vec (CoreItems S) A) → List (Vec (CoreItems S) A) → List (Option ℕ) → ℕ
      → Vec (K × StIdx S) B → Type 0
  HasGivenSteps number kernels reached row len rows =
      AreGivenSteps (kernel_rows index kernels) (kernel_at (kernel_rows index reached)) (λ k. slice_index_or row k None)
      (map (step_entry number index) rows.items) len

  -- the state is the given one, if one is given
  abbrev pub IsGivenNext : Option ℕ → Option (StIdx S) → Type 0
  IsGivenNext given state = option_map (λ s. index s.0) state ≡ given

  -- the given transition fits the kernel of the goto
  abbrev pub FitsGoto : {A : Type 0} → List (Vec (CoreItems S) A) → List (CoreItems S) → Option ℕ → Type 0
  FitsGoto kernels next given = FitsNext (kernel_rows index kernels) (map (core_set index) next) given

  -- the fault is a misfit: the given transition doesn't fit the kernel of the goto
  abbrev pub IsMisfitAt : {A : Type 0} → List (Vec (CoreItems S) A) → List (CoreItems S) → Option ℕ → HeldFault → Type 0
  IsMisfitAt kernels next given fault = (fault ≡ Misfit) × (¬ (FitsGoto kernels next given))

  -- the kernel of the state with the number is weakly compatible with this one
  abbrev pub IsCompatibleWith : Merging S → List (CoreItems S) → ℕ → Type 0
  IsCompatibleWith merging kernel number =
      AreWeaklyCompatible (kernel_at (kernels_of index merging.states.items) number) (map (core_set index) kernel)

  -- there is a state with the number, and its kernel is weakly compatible with this one
  abbrev pub HasCompatibleAt : Merging S → List (CoreItems S) → ℕ → Type 0
  HasCompatibleAt merging kernel number = (number < length merging.states.items) × IsCompatibleWith merging kernel number

  -- no state's kernel is weakly compatible with this one
  abbrev pub HasNoCompatible : Merging S → List (CoreItems S) → Type 0
  HasNoCompatible merging kernel = NoneIsCompatible (kernels_of index merging.states.items) (map (core_set index) kernel)

  -- the kernel of none of the states with these numbers is
  abbrev pub HasNoCompatibleOf : Merging S → List ℕ → List (CoreItems S) → Type 0
  HasNoCompatibleOf merging numbers kernel =
      NoneOfIsCompatible (kernels_of index merging.states.items) numbers (map (core_set index) kernel)

  -- each state has a kernel
  abbrev pub HaveKernels : Grammar → List (MergedState S) → Type 0
  HaveKernels g states = All (IsKernel g) (kernels_of index states)

  -- two of the states have the same LR(0) cores only if they have grown from kernels that aren't weakly compatible
  abbrev pub AreSplitStates : Grammar → List (MergedState S) → Type 0
  AreSplitStates g states = AreSplit g (kernels_of index states)

  -- if each state has a kernel of a grammar, each of the lists has cores of that grammar
  abbrev pub HaveCoresOf : {A : Type 0} → List (MergedState S) → List (Vec (CoreItems S) A) → Type 0
  HaveCoresOf states kernels = (g : Grammar) → HaveKernels g states → HaveCores index g kernels
