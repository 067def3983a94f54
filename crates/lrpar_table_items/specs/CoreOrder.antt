-- The order of cores, and kernels: the cores of the kernel items of a state, whose closure is the state's item set. As cores are in
-- order, an item set has exactly one kernel.
use Rattle.std.specs.Prelude.{◌≡◌, ◌<◌, ◌+◌, ◌==◌, ◌⊎◌, ℕ, IsTrue, List, [], ◌∷◌, All, length}
use Rattle.lrpar_grammar.specs.Grammar.{Grammar, end_token, prods_len, rule_of, start_prod}
use Rattle.lrpar_grammar.specs.Tokens.{has}
use Rattle.lrpar_table_first.specs.FirstRows.{dummy_lookahead}
use Rattle.lrpar_table_items.specs.Cores.{CoreSet, IsCoreOf}

-- production p is listed before q: by their rules, and those of one rule by their numbers
abbrev pub IsProdBefore : Grammar → ℕ → ℕ → Type 0
IsProdBefore g p q = (rule_of g p < rule_of g q) ⊎ ((rule_of g p ≡ rule_of g q) × (p < q))

-- production p with k symbols before the dot comes before production q with l: k is greater, or they are equal and p is listed
-- before q. A goto advances all dots by one, so the order stays
abbrev pub Precedes : Grammar → ℕ → ℕ → ℕ → ℕ → Type 0
Precedes g p k q l = (l < k) ⊎ ((k ≡ l) × IsProdBefore g p q)

-- one core comes before the other
abbrev pub ComesBefore : Grammar → CoreSet → CoreSet → Type 0
ComesBefore g a b = Precedes g a.prod a.dot b.prod b.dot

-- each core comes before all cores after it in the list
abbrev pub AreCoresInOrder : Grammar → List CoreSet → Type 0
AreCoresInOrder g [] = Unit {0}
AreCoresInOrder g (core ∷ cores) = All (ComesBefore g core) cores × AreCoresInOrder g cores

-- the core has at least one lookahead
abbrev pub IsFilled : CoreSet → Type 0
IsFilled core = (t : ℕ) × IsTrue (has core.tokens t)

-- a kernel item's core: the dot isn't at the start, or the production is the start production
abbrev pub IsBegun : Grammar → CoreSet → Type 0
IsBegun g core = (0 < core.dot) ⊎ (core.prod ≡ start_prod g)

-- cores of the grammar in order, each with at least one lookahead
pub record AreCores (g : Grammar) (cores : List CoreSet) : Type 0 where
  pub in_order : AreCoresInOrder g cores
  pub of_grammar : All (IsCoreOf g) cores
  pub filled : All IsFilled cores

-- the core of the start item: the start production with the dot at the start, and the end token as its only lookahead
pub record IsStartCore (g : Grammar) (core : CoreSet) : Type 0 where
  pub production : core.prod ≡ start_prod g
  pub known : start_prod g < prods_len g
  pub at_start : core.dot ≡ 0
  pub wide : length core.tokens ≡ dummy_lookahead g + 1
  pub only_end : (t : ℕ) → has core.tokens t ≡ (t == end_token g)

-- a kernel: the cores of the kernel items of a state, at least one; the closure adds the others
pub record IsKernel (g : Grammar) (kernel : List CoreSet) : Type 0 where
  pub cores : AreCores g kernel
  pub begun : All (IsBegun g) kernel
  pub some : 0 < length kernel

-- the core comes before the productions of rule r, and of the rules after r, with the dot at the start
abbrev pub IsAhead : Grammar → ℕ → CoreSet → Type 0
IsAhead g r core = (0 < core.dot) ⊎ (rule_of g core.prod < r)
