-- Groups of states with the same kernel cores.
use Rattle.std.specs.Prelude.{◌<◌, ℕ, Bool, Contains, IsTrue, List, MatchBool, Vec, get_or, length, map}
use Rattle.lrpar_grammar_places.specs.declared.span.StIdx.{StIdx}
use Rattle.lrpar_table_rows.specs.Graph.{Graph, HasCore, graph_len}
use Rattle.lrpar_table_check.specs.Checked.{Checked}
use Rattle.lrpar_table_sentences.specs.Reachable.{is_marked}

-- the numbers of states
abbrev pub numbers_of : {S : Type 0} → (S → ℕ) → List (StIdx S) → List ℕ
numbers_of index states = map (λ state. index state.0) states

-- each kernel core of state s is one of state t
abbrev pub HasKernelOf : Graph → ℕ → ℕ → Type 0
HasKernelOf graph s t = (p k : ℕ) → HasCore graph s p k → 0 < k → HasCore graph t p k

-- states s and t have the same kernel cores
abbrev pub HaveSameKernel : Graph → ℕ → ℕ → Type 0
HaveSameKernel graph s t = HasKernelOf graph s t × HasKernelOf graph t s

-- the states of code have the same kernel cores
abbrev pub AreInOneGroup : {S : Type 0} → (S → ℕ) → Graph → StIdx S → StIdx S → Type 0
AreInOneGroup index graph one other = HaveSameKernel graph (index one.0) (index other.0)

-- each kernel core of the one state of code is one of the other
abbrev pub CoversKernel : {S : Type 0} → (S → ℕ) → Graph → StIdx S → StIdx S → Type 0
CoversKernel index graph one other = HasKernelOf graph (index one.0) (index other.0)

-- one of these states has the kernel cores of state s
abbrev pub IsInGroup : Graph → List ℕ → ℕ → Type 0
IsInGroup graph firsts s = (first : ℕ) × Contains firsts first × HaveSameKernel graph first s

-- state s is marked, and none of these states has its kernel cores
abbrev pub IsFirst : Graph → List Bool → List ℕ → ℕ → Type 0
IsFirst graph marks firsts s = IsTrue (is_marked marks s) × ¬ (IsInGroup graph firsts s)

-- state s isn't marked, or one of these states has its kernel cores
abbrev pub IsNoFirst : Graph → List Bool → List ℕ → ℕ → Type 0
IsNoFirst graph marks firsts s = IsTrue (is_marked marks s) → IsInGroup graph firsts s

-- one of these states of code has the kernel cores of the state of code
abbrev pub HasGroup : {S : Type 0} → (S → ℕ) → Graph → List (StIdx S) → StIdx S → Type 0
HasGroup index graph firsts state = IsInGroup graph (numbers_of index firsts) (index state.0)

-- the answer is true if the state of code is marked, and none of these states of code has its kernel cores
abbrev pub TellsFirst : {S : Type 0} → (S → ℕ) → Graph → List Bool → List (StIdx S) → StIdx S → Bool → Type 0
TellsFirst index graph marks firsts state answer =
    MatchBool answer (IsFirst graph marks (numbers_of index firsts) (index state.0)) (IsNoFirst graph marks (numbers_of index firsts) (index state.0))

-- these are marked states, each marked state has the kernel cores of one of them, and no two of them have the same
pub record AreFirsts (graph : Graph) (marks : List Bool) (firsts : List ℕ) : Type 0 where
  pub each : (first : ℕ) → Contains firsts first → IsTrue (is_marked marks first)
  pub all : (s : ℕ) → s < graph_len graph → IsTrue (is_marked marks s) → IsInGroup graph firsts s
  pub apart : (i j d : ℕ) → i < j → j < length firsts → ¬ (HaveSameKernel graph (get_or firsts i d) (get_or firsts j d))

-- these states of code are the first ones of the groups of marked states of the checked table
abbrev pub AreGroups : {S A : Type 0} → (S → ℕ) → Checked → List Bool → Vec (StIdx S) A → Type 0
AreGroups index d marks firsts = AreFirsts d.graph marks (numbers_of index firsts.items)
