-- The states that are built: each with its cores, and its transitions by the symbols after the dots of its items.
use Rattle.std.specs.Prelude.{◌≡◌, ◌<◌, ℕ, List, [], All, Some, length, map, nat_eq, slice_index_or}
use Rattle.std.specs.Map.{keys_of, lookup}
use Rattle.std.specs.declared.vec.Vec.{Vec}
use Rattle.lrpar_grammar_places.specs.declared.span.StIdx.{StIdx}
use Rattle.lrpar_grammar.specs.Grammar.{Grammar, GrammarSymbol, Nonterminal, Terminal, rules_len, tokens_len}
use Rattle.lrpar_table_rows.specs.Graph.{ItemOf}
use Rattle.lrpar_table_rows.specs.PlainRows.{goto_entry}
use Rattle.lrpar_table_items.specs.Canonical.{AreCanonical, AreSame, IsTransition}
use Rattle.lrpar_table_items.specs.Cores.{CoreSet, IsAmong, IsCoreOf, core_set}
use Rattle.lrpar_table_items.specs.ItemSets.{IsInClosure, IsStartItem}
use Rattle.lrpar_table_items.specs.Next.{kernel_rows, AreNext, kernel_at}
use Rattle.lrpar_table_items.specs.Working.{AreSuccessors}
use Rattle.lrpar_table_items.specs.CoreOrder.{AreCores}
use Rattle.lrpar_table_items.specs.Kernels.{GoesTo}
use Rattle.lrpar_table_items.specs.Resolution.{AreOnce, AscendFrom, shift_entry}
use Rattle.lrpar_table_items.specs.declared.cores.CoreItems.{CoreItems}
use Rattle.lrpar_table_items.specs.declared.item_set.State.{State}
use Rattle.lrpar_table_items.specs.declared.successors.Successors.{Successors}

-- a state: its cores with their lookaheads, the states to which it goes by rules, and those to which it goes by tokens
pub record StateOf : Type 0 where
  pub cores : List CoreSet
  pub gotos : List (ℕ × ℕ)
  pub shifts : List (ℕ × ℕ)

-- the state that a value of code represents
abbrev pub state_of : {S : Type 0} → (S → ℕ) → State S → StateOf
state_of index state = record {
  cores = map (core_set index) state.items.items;
  gotos = map (goto_entry index) state.gotos.items;
  shifts = map (shift_entry index) state.shifts.items;
}

-- state s; out of range, one without items
abbrev pub state_at : List StateOf → ℕ → StateOf
state_at states s = slice_index_or states s (record { cores = []; gotos = []; shifts = [] })

-- the items of each state
abbrev pub sets_at : List StateOf → ℕ → ItemOf → Type 0
sets_at states s = IsAmong (state_at states s).cores

-- each state has cores of the grammar, each once, and transitions by symbols of the grammar to some of the states, symbols ascending:
-- what the rows of a table need, whatever the item sets are
pub record AreStateRows (g : Grammar) (states : List StateOf) : Type 0 where
  pub cores : (s : ℕ) → s < length states → All (IsCoreOf g) (state_at states s).cores
  pub once : (s : ℕ) → s < length states → AreOnce (state_at states s).cores
  pub gotos_ascend : (s : ℕ) → s < length states → AscendFrom 0 (keys_of (state_at states s).gotos)
  pub shifts_ascend : (s : ℕ) → s < length states → AscendFrom 0 (keys_of (state_at states s).shifts)
  pub gotos_fit : (s r next : ℕ) → s < length states → lookup (nat_eq r) (state_at states s).gotos ≡ Some next
      → (r < rules_len g) × (next < length states)
  pub shifts_fit : (s t next : ℕ) → s < length states → lookup (nat_eq t) (state_at states s).shifts ≡ Some next
      → (t < tokens_len g) × (next < length states)

-- the states' item sets are the canonical collection; each state has each core once, and its transitions in ascending order
pub record AreStates (g : Grammar) (states : List StateOf) : Type 0 where
  pub canonical : AreCanonical g (length states) (sets_at states)
  pub cores : (s : ℕ) → s < length states → All (IsCoreOf g) (state_at states s).cores
  pub once : (s : ℕ) → s < length states → AreOnce (state_at states s).cores
  pub gotos_ascend : (s : ℕ) → s < length states → AscendFrom 0 (keys_of (state_at states s).gotos)
  pub shifts_ascend : (s : ℕ) → s < length states → AscendFrom 0 (keys_of (state_at states s).shifts)
  pub gotos : (s r : ℕ) → s < length states
      → IsTransition g (length states) (sets_at states) s (Nonterminal r) (lookup (nat_eq r) (state_at states s).gotos)
  pub shifts : (s t : ℕ) → s < length states
      → IsTransition g (length states) (sets_at states) s (Terminal t) (lookup (nat_eq t) (state_at states s).shifts)

-- a transition: a symbol's number, and the next state
abbrev pub step_entry : {K S : Type 0} → (K → ℕ) → (S → ℕ) → K × StIdx S → ℕ × ℕ
step_entry number index entry = (number entry.0, index entry.1.0)

-- the row has the cores' transitions by all symbols of one kind, numbers ascending
pub record AreSteps (g : Grammar) (kernels : List (List CoreSet)) (cores : List CoreSet) (symbol : ℕ → GrammarSymbol) (rows : List (ℕ × ℕ)) : Type 0 where
  pub ascend : AscendFrom 0 (keys_of rows)
  pub goes : (n : ℕ) → GoesTo g kernels cores (symbol n) (lookup (nat_eq n) rows)

-- the state's items are the closure of the kernel, and its transitions lead to these kernels
pub record IsExpanded (g : Grammar) (kernels : List (List CoreSet)) (kernel : List CoreSet) (state : StateOf) : Type 0 where
  pub items : AreSame (IsAmong state.cores) (IsInClosure g (IsAmong kernel))
  pub cores : AreCores g state.cores
  pub gotos : AreSteps g kernels state.cores Nonterminal state.gotos
  pub shifts : AreSteps g kernels state.cores Terminal state.shifts

-- the row has the cores' transitions by the symbols of one kind with numbers below n, numbers ascending
pub record AreStepsBelow (g : Grammar) (kernels : List (List CoreSet)) (cores : List CoreSet) (symbol : ℕ → GrammarSymbol) (rows : List (ℕ × ℕ)) (n : ℕ) : Type 0 where
  pub ascend : AscendFrom 0 (keys_of rows)
  pub below : All (λ k. k < n) (keys_of rows)
  pub goes : (k : ℕ) → k < n → GoesTo g kernels cores (symbol k) (lookup (nat_eq k) rows)

-- the kernels to which the item set goes by the symbols of one kind, as many as the grammar has symbols of this kind
abbrev pub AreKernelsBy : {S A : Type 0} → (S → ℕ) → (ℕ → GrammarSymbol) → (Grammar → ℕ) → Successors S → List (Vec (CoreItems S) A) → Type 0
AreKernelsBy index symbol len_in successors kernels =
    (g : Grammar) → AreSuccessors index g successors
    → (length kernels ≡ len_in g) × AreNext g (map (core_set index) successors.items.items) symbol (kernel_rows index kernels)

-- the first kernel is that of the start item
pub record StartsRight (g : Grammar) (kernels : List (List CoreSet)) : Type 0 where
  pub some : 0 < length kernels
  pub is : AreSame (IsAmong (kernel_at kernels 0)) (IsStartItem g)

-- the states' items are the closures of the first kernels, and their transitions lead to these kernels
abbrev pub AreExpanded : Grammar → List (List CoreSet) → List StateOf → Type 0
AreExpanded g kernels states = (s : ℕ) → s < length states → IsExpanded g kernels (kernel_at kernels s) (state_at states s)
