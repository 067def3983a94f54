-- Facts of cores, kernels and gotos as the code stores them. `index` is the number that a storage number represents.
use Rattle.std.specs.Prelude.{◌≡◌, ◌+◌, ◌↔◌, ◌∷◌, ◌++◌, ◌⊎◌, ℕ, List, [], All, MatchOption, Option, length, map}
use Rattle.std.specs.Option.{option_map}
use Rattle.std.specs.declared.vec.Vec.{Vec}
use Rattle.lrpar_grammar_places.specs.declared.span.PIdx.{PIdx}
use Rattle.lrpar_grammar_places.specs.declared.span.RIdx.{RIdx}
use Rattle.lrpar_grammar_places.specs.declared.span.StIdx.{StIdx}
use Rattle.lrpar_grammar_places.specs.declared.span.Symbol.{Symbol}
use Rattle.lrpar_grammar.specs.Grammar.{Grammar, Nonterminal, Terminal, rule_of, rules_len, tokens_len}
use Rattle.lrpar_grammar.specs.Symbols.{symbol_of}
use Rattle.lrpar_grammar.specs.declared.token_set.TokenSet.{TokenSet}
use Rattle.lrpar_table_rows.specs.Graph.{ItemOf}
use Rattle.lrpar_table_first.specs.FirstRows.{IsSymbolBelow, dummy_lookahead, rows_of}
use Rattle.lrpar_table_items.specs.Brought.{HasIn, IsBrought, IsSpreadAt, IsSpreadOf}
use Rattle.lrpar_table_items.specs.Cores.{AreBringing, Brings, CoreSet, IsAmong, IsCoreOf, IsOfRows, IsOfRule, core_set}
use Rattle.lrpar_table_items.specs.CoreOrder.{AreCores, IsAhead, IsKernel}
use Rattle.lrpar_table_items.specs.ItemSets.{IsInClosure, IsStartItem}
use Rattle.lrpar_table_items.specs.KernelMap.{IsFound, IsFresh}
use Rattle.lrpar_table_items.specs.Next.{ArePutTo, advanced, kernel_at, kernel_rows, symbol_after}
use Rattle.lrpar_table_items.specs.Working.{Rests, brought_rows}
use Rattle.lrpar_table_items.specs.declared.cores.CoreItems.{CoreItems}
use Rattle.lrpar_table_items.specs.declared.sets.Sets.{Sets}
use Rattle.lrpar_table_items.specs.declared.successors.Successors.{Successors}

-- the set has room for each token and for the dummy lookahead
abbrev pub IsWide : Grammar → TokenSet → Type 0
IsWide g tokens = length tokens ≡ dummy_lookahead g + 1

-- the cores have the same lookaheads
abbrev pub HaveSameTokens : {S : Type 0} → CoreItems S → CoreItems S → Type 0
HaveSameTokens core other = core.tokens ≡ other.tokens

-- the item set is that of these cores
abbrev pub HasItems : {S : Type 0} → List (CoreItems S) → Successors S → Type 0
HasItems items successors = successors.items.items ≡ items

module _ {S : Type 0} (index : S → ℕ) where
  -- the core is one of the grammar
  abbrev pub IsOfGrammar : Grammar → CoreItems S → Type 0
  IsOfGrammar g core = IsCoreOf g (core_set index core)

  -- each of the cores is one of the grammar
  abbrev pub AreOfGrammar : Grammar → List (CoreItems S) → Type 0
  AreOfGrammar g cores = All (IsCoreOf g) (map (core_set index) cores)

  -- cores of the grammar in order, each with at least one lookahead
  abbrev pub AreCoresOf : {A : Type 0} → Grammar → Vec (CoreItems S) A → Type 0
  AreCoresOf g cores = AreCores g (map (core_set index) cores.items)

  -- a kernel of the grammar
  abbrev pub IsKernelOf : {A : Type 0} → Grammar → Vec (CoreItems S) A → Type 0
  IsKernelOf g kernel = IsKernel g (map (core_set index) kernel.items)

  -- the one item of the cores is the start item
  abbrev pub IsStartKernel : {A : Type 0} → Grammar → Vec (CoreItems S) A → Type 0
  IsStartKernel g kernel = (x : ItemOf) → IsAmong (map (core_set index) kernel.items) x ↔ IsStartItem g x

  -- both values are the same core, with the same lookaheads
  abbrev pub IsSameCore : CoreItems S → CoreItems S → Type 0
  IsSameCore core other = core_set index core ≡ core_set index other

  -- the lists have the same cores, with the same lookaheads, in the same order
  abbrev pub AreSameCores : List (CoreItems S) → List (CoreItems S) → Type 0
  AreSameCores cores others = map (core_set index) cores ≡ map (core_set index) others

  -- the copy has these cores
  abbrev pub IsCopyOf : {A : Type 0} → List (CoreItems S) → Vec (CoreItems S) A → Type 0
  IsCopyOf cores copy = map (core_set index) copy.items ≡ map (core_set index) cores

  -- the items of the closure are those of the kernel's closure
  abbrev pub IsClosureOf : {A B : Type 0} → Grammar → Vec (CoreItems S) A → Vec (CoreItems S) B → Type 0
  IsClosureOf g kernel closure =
      (x : ItemOf) → IsAmong (map (core_set index) closure.items) x ↔ IsInClosure g (IsAmong (map (core_set index) kernel.items)) x

  -- the items of the cores are those that they were, and the added ones
  abbrev pub AddsItems : {A B : Type 0} → (ItemOf → Type 0) → Vec (CoreItems S) A → Vec (CoreItems S) B → Type 0
  AddsItems added old new =
      (x : ItemOf) → IsAmong (map (core_set index) new.items) x ↔ (IsAmong (map (core_set index) old.items) x ⊎ added x)

  -- the items that the closure adds were added: those of all rules, with the lookaheads that are brought to these
  abbrev pub AddsRows : {A B : Type 0} → Grammar → List TokenSet → Vec (CoreItems S) A → Vec (CoreItems S) B → Type 0
  AddsRows g brought old new = AddsItems (IsOfRows g (rows_of brought)) old new

  -- the items that the closure adds for the rule were added, with these lookaheads
  abbrev pub AddsRule : {A B : Type 0} → Grammar → RIdx S → TokenSet → Vec (CoreItems S) A → Vec (CoreItems S) B → Type 0
  AddsRule g rule tokens old new = AddsItems (IsOfRule g (index rule.0) tokens) old new

  -- the production was appended, with its dot at the start and these lookaheads
  abbrev pub AppendsProd : {A B : Type 0} → PIdx S → TokenSet → Vec (CoreItems S) A → Vec (CoreItems S) B → Type 0
  AppendsProd prod tokens old new =
      map (core_set index) new.items ≡ map (core_set index) old.items ++ record { prod = index prod.0; dot = 0; tokens = tokens } ∷ []

  -- the cores come before the productions of rule n, and of the rules after it, with the dot at the start
  abbrev pub AreAhead : {A : Type 0} → Grammar → ℕ → Vec (CoreItems S) A → Type 0
  AreAhead g n cores = All (IsAhead g n) (map (core_set index) cores.items)

  -- the lookaheads of each rule are those that the closure of the cores brings to it
  abbrev pub AreBroughtBy : Grammar → List (CoreItems S) → Sets → Type 0
  AreBroughtBy g cores sets =
      (r t : ℕ) → HasIn (brought_rows sets) r t ↔ IsBrought g (AreBringing g (map (core_set index) cores)) r t

  -- the lookaheads of each rule are those that it had, and those that the core brings to it
  abbrev pub AddsBrought : Grammar → CoreItems S → Sets → Sets → Type 0
  AddsBrought g core old new =
      (r t : ℕ) → HasIn (brought_rows new) r t ↔ (HasIn (brought_rows old) r t ⊎ Brings g (core_set index core) r t)

  -- the rule doesn't wait, and no rule waits that didn't
  abbrev pub ComesToRest : RIdx S → Sets → Sets → Type 0
  ComesToRest rule old new = Rests new (index rule.0) × ((n : ℕ) → Rests old n → Rests new n)

  -- if the rule doesn't wait, it has passed its lookaheads on
  abbrev pub HasPassedOn : Grammar → RIdx S → Sets → Type 0
  HasPassedOn g rule sets = Rests sets (index rule.0) → IsSpreadOf g (brought_rows sets) (index rule.0)

  -- if the production's rule doesn't wait, it has passed its lookaheads on by this production
  abbrev pub HasPassedOnBy : Grammar → PIdx S → Sets → Type 0
  HasPassedOnBy g prod sets = Rests sets (rule_of g (index prod.0)) → IsSpreadAt g (brought_rows sets) (index prod.0)

  -- the kernel with this number
  abbrev pub IsKernelAt : {A : Type 0} → List (List CoreSet) → ℕ → Vec (CoreItems S) A → Type 0
  IsKernelAt kernels number kernel = map (core_set index) kernel.items ≡ kernel_at kernels number

  -- the kernel's number; none if it has no number
  abbrev pub FindsKernel : List (List CoreSet) → List (CoreItems S) → Option (StIdx S) → Type 0
  FindsKernel kernels kernel found =
      MatchOption found (IsFresh kernels (map (core_set index) kernel))
      (λ state. IsFound kernels (map (core_set index) kernel) (index state.0))

  -- the kernel has no number
  abbrev pub IsNewKernel : {A : Type 0} → List (List CoreSet) → Vec (CoreItems S) A → Type 0
  IsNewKernel kernels kernel = IsFresh kernels (map (core_set index) kernel.items)

  -- the kernel was appended
  abbrev pub AppendsKernel : {A : Type 0} → Vec (CoreItems S) A → List (List CoreSet) → List (List CoreSet) → Type 0
  AppendsKernel kernel old new = new ≡ old ++ map (core_set index) kernel.items ∷ []

  -- none of the kernels has cores
  abbrev pub HaveNoCores : {A B : Type 0} → Vec (Vec (CoreItems S) A) B → Type 0
  HaveNoCores kernels = (n : ℕ) → kernel_at (kernel_rows index kernels.items) n ≡ []

  -- the core, advanced, was appended to the kernel of the rule after its dot, if a rule is there
  abbrev pub IsPutToRules : {A : Type 0} → Grammar → CoreItems S → List (Vec (CoreItems S) A) → List (Vec (CoreItems S) A) → Type 0
  IsPutToRules g core old new = ArePutTo g (core_set index core) Nonterminal (kernel_rows index old) (kernel_rows index new)

  -- the core, advanced, was appended to the kernel of the token after its dot, if a token is there
  abbrev pub IsPutToTokens : {A : Type 0} → Grammar → CoreItems S → List (Vec (CoreItems S) A) → List (Vec (CoreItems S) A) → Type 0
  IsPutToTokens g core old new = ArePutTo g (core_set index core) Terminal (kernel_rows index old) (kernel_rows index new)

  -- the symbol after the core's dot; none if there is none
  abbrev pub IsSymbolAfter : Grammar → CoreItems S → Option (Symbol S) → Type 0
  IsSymbolAfter g core symbol = option_map (symbol_of index) symbol ≡ symbol_after g (core_set index core)

  -- the symbol is one of the grammar
  abbrev pub IsSymbolOf : Grammar → Symbol S → Type 0
  IsSymbolOf g symbol = IsSymbolBelow (rules_len g) (tokens_len g) (symbol_of index symbol)

  -- the core was appended, with its dot one symbol further
  abbrev pub AppendsAdvanced : {A B : Type 0} → CoreItems S → Vec (CoreItems S) A → Vec (CoreItems S) B → Type 0
  AppendsAdvanced core old new =
      map (core_set index) new.items ≡ map (core_set index) old.items ++ advanced (core_set index core) ∷ []
