-- Kernels with the same LR(0) cores, and whether they are weakly compatible: the test by which states are merged. That merging such states
-- makes no new reduce/reduce conflict is not proved here.
use Rattle.std.specs.Prelude.{◌≡◌, ◌≢◌, ◌<◌, ◌⊎◌, ℕ, Bool, List, [], length, map, slice_index_or}
use Rattle.lrpar_grammar.specs.Tokens.{HaveCommon}
use Rattle.lrpar_table_items.specs.Cores.{CoreSet}

-- the LR(0) core: the production, and how many of its symbols are before the dot
abbrev pub lr0_core : CoreSet → ℕ × ℕ
lr0_core core = (core.prod, core.dot)

-- two kernels have the same LR(0) cores in the same order, whatever their lookaheads are
abbrev pub HaveSameCores : List CoreSet → List CoreSet → Type 0
HaveSameCores kernel other = map lr0_core kernel ≡ map lr0_core other

-- the lookaheads of each core
abbrev pub lookahead_rows : List CoreSet → List (List Bool)
lookahead_rows cores = map (λ core. core.tokens) cores

-- the lookaheads of core i; out of range, none
abbrev pub lookaheads_at : List CoreSet → ℕ → List Bool
lookaheads_at cores i = slice_index_or (lookahead_rows cores) i []

-- two cores are compatible in two kernels: l and m are the lookaheads of the one core in the two kernels, l' and m' those of the other core.
-- Either neither l and m' nor m and l' have a common token, or l and l' have one, or m and m'
abbrev pub IsPairCompatible : List Bool → List Bool → List Bool → List Bool → Type 0
IsPairCompatible l m l' m' = ((¬ (HaveCommon l m')) × (¬ (HaveCommon m l'))) ⊎ (HaveCommon l l' ⊎ HaveCommon m m')

-- cores i and j of the two kernels
abbrev pub ArePairCompatible : List CoreSet → List CoreSet → ℕ → ℕ → Type 0
ArePairCompatible kernel other i j =
    IsPairCompatible (lookaheads_at kernel i) (lookaheads_at other i) (lookaheads_at kernel j) (lookaheads_at other j)

-- two kernels are weakly compatible: they have the same LR(0) cores, and so is each pair of different cores
pub record AreWeaklyCompatible (kernel other : List CoreSet) : Type 0 where
  pub same : HaveSameCores kernel other
  pub pairs : (i j : ℕ) → i < length kernel → j < length kernel → i ≢ j → ArePairCompatible kernel other i j
