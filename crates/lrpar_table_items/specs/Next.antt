-- Gotos: the kernels to which cores go by symbols.
use Rattle.std.specs.Prelude.{◌≡◌, ◌<◌, ◌+◌, ◌==◌, ◌++◌, ℕ, Bool, false, List, [], ◌∷◌, Option, Some, None, length, map, slice_get, slice_index_or}
use Rattle.std.specs.List.{filter}
use Rattle.std.specs.declared.vec.Vec.{Vec}
use Rattle.lrpar_grammar.specs.Grammar.{Grammar, GrammarSymbol, Nonterminal, Terminal, symbols_of}
use Rattle.lrpar_table_rows.specs.Graph.{ItemOf}
use Rattle.lrpar_table_items.specs.Cores.{CoreSet, IsAmong, core_set}
use Rattle.lrpar_table_items.specs.declared.cores.CoreItems.{CoreItems}

-- the kernels that values of code represent
abbrev pub kernel_rows : {S A : Type 0} → (S → ℕ) → List (Vec (CoreItems S) A) → List (List CoreSet)
kernel_rows index kernels = map (λ kernel. map (core_set index) kernel.items) kernels

-- the symbol after the dot
abbrev pub symbol_after : Grammar → CoreSet → Option GrammarSymbol
symbol_after g core = slice_get (symbols_of g core.prod) core.dot

-- whether the symbol after the dot is this one
abbrev pub is_symbol : GrammarSymbol → Option GrammarSymbol → Bool
is_symbol symbol None = false
is_symbol (Nonterminal r) (Some (Nonterminal q)) = r == q
is_symbol (Nonterminal r) (Some (Terminal t)) = false
is_symbol (Terminal t) (Some (Nonterminal r)) = false
is_symbol (Terminal t) (Some (Terminal s)) = t == s

-- the core with its dot one symbol further
abbrev pub advanced : CoreSet → CoreSet
advanced core = record { prod = core.prod; dot = core.dot + 1; tokens = core.tokens }

-- the kernel of the goto by the symbol: the cores with this symbol after the dot, each advanced
abbrev pub next_kernel : Grammar → GrammarSymbol → List CoreSet → List CoreSet
next_kernel g symbol cores = map advanced (filter (λ core. is_symbol symbol (symbol_after g core)) cores)

-- an item of the cores has the symbol after its dot
abbrev pub HaveAfterDot : Grammar → List CoreSet → GrammarSymbol → Type 0
HaveAfterDot g cores symbol = (x : ItemOf) × IsAmong cores x × (slice_get (symbols_of g x.prod) x.dot ≡ Some symbol)

-- kernel s; out of range, one without cores
abbrev pub kernel_at : List (List CoreSet) → ℕ → List CoreSet
kernel_at kernels s = slice_index_or kernels s []

-- the kernels to which cores go by symbols, each at the number of its symbol
abbrev pub AreNext : Grammar → List CoreSet → (ℕ → GrammarSymbol) → List (List CoreSet) → Type 0
AreNext g cores symbol kernels = (n : ℕ) → n < length kernels → kernel_at kernels n ≡ next_kernel g (symbol n) cores

-- the core, advanced, was appended to the kernel of the symbol after its dot, if there is one
pub record ArePutTo (g : Grammar) (core : CoreSet) (symbol : ℕ → GrammarSymbol) (before after : List (List CoreSet)) : Type 0 where
  pub len : length after ≡ length before
  pub each : (n : ℕ) → n < length before → kernel_at after n ≡ kernel_at before n ++ next_kernel g (symbol n) (core ∷ [])
