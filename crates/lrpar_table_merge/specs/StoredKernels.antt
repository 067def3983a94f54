-- Cores and kernels as the code stores them. `index` is the number that a storage number represents.
use Rattle.std.specs.Prelude.{◌≡◌, ◌<◌, ◌≤◌, ◌||◌, ℕ, false, List, All, Vec, length, map}
use Rattle.lrpar_grammar.specs.Grammar.{Grammar}
use Rattle.lrpar_grammar.specs.Tokens.{has, missing}
use Rattle.lrpar_table_first.specs.FirstRows.{total_missing}
use Rattle.lrpar_table_rows.specs.Graph.{ItemOf}
use Rattle.lrpar_table_items.specs.CoreOrder.{IsKernel}
use Rattle.lrpar_table_items.specs.Cores.{IsAmong, IsCoreOf, core_set}
use Rattle.lrpar_table_items.specs.Next.{kernel_at, kernel_rows}
use Rattle.lrpar_table_items.specs.declared.cores.CoreItems.{CoreItems}
use Rattle.lrpar_table_merge.specs.Compatible.{ArePairCompatible, AreWeaklyCompatible, HaveSameCores, lookahead_rows, lr0_core}
use Rattle.lrpar_table_merge.specs.Distinct.{AreNew, IsNew}
use Rattle.lrpar_table_merge.specs.Merging.{AreCoreRows, AreKernelsOrEmpty, AreMadeOrEmpty, IsMade, first_prod}
use Rattle.lrpar_table_merge.specs.PassedOn.{AreBeginnings, IsBeginning}
use Rattle.lrpar_table_merge.specs.Propagated.{AreAlike}
use Rattle.lrpar_table_merge.specs.United.{AreUnited, rooms_of}

-- the lookaheads of both cores have the same room
abbrev pub HaveOneRoom : {S : Type 0} → CoreItems S → CoreItems S → Type 0
HaveOneRoom core other = length core.tokens ≡ length other.tokens

-- the core has no lookahead
abbrev pub HasNoLookahead : {S : Type 0} → CoreItems S → Type 0
HasNoLookahead core = (t : ℕ) → has core.tokens t ≡ false

-- the lookaheads are those that the core had, and those of the other core
abbrev pub UnitesLookaheads : {S : Type 0} → CoreItems S → CoreItems S → CoreItems S → Type 0
UnitesLookaheads old other new = (t : ℕ) → has new.tokens t ≡ (has old.tokens t || has other.tokens t)

-- fewer tokens than before are missing among the core's lookaheads
abbrev pub LacksFewer : {S : Type 0} → CoreItems S → CoreItems S → Type 0
LacksFewer old new = missing new.tokens < missing old.tokens

-- there is at least one, and there are at most n
abbrev pub AreOneTo : {X : Type 0} → ℕ → List X → Type 0
AreOneTo n xs = (0 < length xs) × (length xs ≤ n)

module _ {S : Type 0} (index : S → ℕ) where
  -- the LR(0) core is the same
  abbrev pub IsSameCore : CoreItems S → CoreItems S → Type 0
  IsSameCore core other = lr0_core (core_set index core) ≡ lr0_core (core_set index other)

  -- a core of a grammar is still a core of that grammar
  abbrev pub StaysCore : CoreItems S → CoreItems S → Type 0
  StaysCore old new = (g : Grammar) → IsCoreOf g (core_set index old) → IsCoreOf g (core_set index new)

  -- the LR(0) cores are the same, in the same order
  abbrev pub AreSameCores : List (CoreItems S) → List (CoreItems S) → Type 0
  AreSameCores kernel other = HaveSameCores (map (core_set index) kernel) (map (core_set index) other)

  -- the cores and their lookaheads are the same
  abbrev pub AreEqualCores : List (CoreItems S) → List (CoreItems S) → Type 0
  AreEqualCores kernel other = map (core_set index) kernel ≡ map (core_set index) other

  -- cores of a grammar are still cores of that grammar
  abbrev pub StayCores : List (CoreItems S) → List (CoreItems S) → Type 0
  StayCores old new = (g : Grammar) → All (IsCoreOf g) (map (core_set index) old) → All (IsCoreOf g) (map (core_set index) new)

  -- the cores have an item
  abbrev pub HaveAnItem : List (CoreItems S) → Type 0
  HaveAnItem kernel = (x : ItemOf) × IsAmong (map (core_set index) kernel) x

  -- the cores have no item
  abbrev pub HaveNoItem : List (CoreItems S) → Type 0
  HaveNoItem kernel = (x : ItemOf) → ¬ (IsAmong (map (core_set index) kernel) x)

  -- the cores are a kernel
  abbrev pub IsKernelOf : Grammar → List (CoreItems S) → Type 0
  IsKernelOf g kernel = IsKernel g (map (core_set index) kernel)

  -- the cores are a kernel that merging can make
  pub record IsMadeOf (g : Grammar) (kernel : List (CoreItems S)) : Type 0 where
    pub is : IsKernelOf g kernel
    pub made : IsMade g (map (core_set index) kernel)

  -- the first core is one of this production
  abbrev pub BeginsWith : List (CoreItems S) → ℕ → Type 0
  BeginsWith kernel prod = first_prod (map (core_set index) kernel) ≡ prod

  -- a kernel of a grammar is still a kernel of that grammar
  abbrev pub StaysKernel : List (CoreItems S) → List (CoreItems S) → Type 0
  StaysKernel old new = (g : Grammar) → IsKernelOf g old → IsKernelOf g new

  -- the cores are of the grammar, and a kernel as soon as they have an item
  abbrev pub IsKernelIfFilled : Grammar → List (CoreItems S) → Type 0
  IsKernelIfFilled g kernel = IsBeginning g (map (core_set index) kernel)

  -- the two kernels are weakly compatible
  abbrev pub AreCompatible : List (CoreItems S) → List (CoreItems S) → Type 0
  AreCompatible kernel other = AreWeaklyCompatible (map (core_set index) kernel) (map (core_set index) other)

  -- in two kernels, the core at the place is compatible with each core before it
  abbrev pub IsCompatibleBefore : List (CoreItems S) → List (CoreItems S) → ℕ → Type 0
  IsCompatibleBefore kernel other place =
      (j : ℕ) → j < place → ArePairCompatible (map (core_set index) kernel) (map (core_set index) other) place j

  -- the kernels have the same LR(0) cores, and room for as many lookaheads
  pub record CanUnite (kernel other : List (CoreItems S)) : Type 0 where
    pub same : AreSameCores kernel other
    pub room : rooms_of (map (core_set index) kernel) ≡ rooms_of (map (core_set index) other)

  -- the cores stay, and the lookaheads of each are those that it had, and those that it has in the other kernel
  abbrev pub UniteKernels : List (CoreItems S) → List (CoreItems S) → List (CoreItems S) → Type 0
  UniteKernels old other new = AreUnited (map (core_set index) old) (map (core_set index) other) (map (core_set index) new)

  -- fewer tokens than before are missing among the lookaheads of the cores
  abbrev pub LackFewer : List (CoreItems S) → List (CoreItems S) → Type 0
  LackFewer old new = total_missing (lookahead_rows (map (core_set index) new)) < total_missing (lookahead_rows (map (core_set index) old))

  -- each of the lists has cores of the grammar
  abbrev pub HaveCores : {A : Type 0} → Grammar → List (Vec (CoreItems S) A) → Type 0
  HaveCores g kernels = AreCoreRows g (kernel_rows index kernels)

  -- lists with cores of a grammar still have cores of that grammar
  abbrev pub KeepCores : {A : Type 0} → List (Vec (CoreItems S) A) → List (Vec (CoreItems S) A) → Type 0
  KeepCores old new = (g : Grammar) → HaveCores g old → HaveCores g new

  -- there are as many lists, and each has the same LR(0) cores
  abbrev pub StayAlike : {A : Type 0} → List (Vec (CoreItems S) A) → List (Vec (CoreItems S) A) → Type 0
  StayAlike old new = AreAlike (kernel_rows index old) (kernel_rows index new)

  -- none of the lists has an item
  abbrev pub AreWithoutItems : {A : Type 0} → List (Vec (CoreItems S) A) → Type 0
  AreWithoutItems kernels = (s : ℕ) (x : ItemOf) → ¬ (IsAmong (kernel_at (kernel_rows index kernels) s) x)

  -- the kernel with the number is none of those before it
  abbrev pub IsNewAt : {A : Type 0} → List (Vec (CoreItems S) A) → ℕ → Type 0
  IsNewAt kernels number = IsNew (kernel_rows index kernels) number

  -- the kernel with the number is the same as an earlier one
  abbrev pub IsTwinOf : {A : Type 0} → List (Vec (CoreItems S) A) → ℕ → ℕ → Type 0
  IsTwinOf kernels number earlier =
      (earlier < number) × (kernel_at (kernel_rows index kernels) earlier ≡ kernel_at (kernel_rows index kernels) number)

  -- two of the kernels are the same, the earlier one first
  abbrev pub AreTwins : {A : Type 0} → List (Vec (CoreItems S) A) → ℕ × ℕ → Type 0
  AreTwins kernels pair = IsTwinOf kernels pair.1 pair.0

  -- no two of the kernels have the same cores with the same lookaheads
  abbrev pub AreDistinctKernels : {A : Type 0} → List (Vec (CoreItems S) A) → Type 0
  AreDistinctKernels kernels = AreNew (kernel_rows index kernels)

  -- each of the lists has cores of the grammar, and is a kernel as soon as it has an item
  abbrev pub AreKernelsIfFilled : {A : Type 0} → Grammar → List (Vec (CoreItems S) A) → Type 0
  AreKernelsIfFilled g kernels = AreBeginnings g (kernel_rows index kernels)

  -- each of the lists is a kernel that merging can make, if it has any core
  pub record AreMadeOf {A : Type 0} (g : Grammar) (kernels : List (Vec (CoreItems S) A)) : Type 0 where
    pub are : AreKernelsOrEmpty g (kernel_rows index kernels)
    pub made : AreMadeOrEmpty g (kernel_rows index kernels)
