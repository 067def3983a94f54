-- LR(1) items by their LR(0) cores, each with the set of its lookaheads.
use Rattle.std.specs.Prelude.{◌≡◌, ◌<◌, ◌≤◌, ◌+◌, ℕ, Bool, IsTrue, List, ◌∷◌, Contains, drop, length}
use Rattle.lrpar_grammar.specs.Grammar.{Grammar, GrammarSymbol, Nonterminal, prod_len, prods_len, rule_of, symbols_of}
use Rattle.lrpar_table_rows.specs.Graph.{ItemOf}
use Rattle.lrpar_table_first.specs.FirstRows.{IsFirstBefore, dummy_lookahead}
use Rattle.lrpar_table_items.specs.Brought.{HasIn}
use Rattle.lrpar_grammar.specs.Tokens.{has}
use Rattle.lrpar_table_items.specs.declared.cores.CoreItems.{CoreItems}

-- the items of one core: its production, its dot, and whether each token is a lookahead
pub record CoreSet : Type 0 where
  pub prod : ℕ
  pub dot : ℕ
  pub tokens : List Bool

-- the core that a value of code represents
abbrev pub core_set : {S : Type 0} → (S → ℕ) → CoreItems S → CoreSet
core_set index core = record { prod = index core.prod.0; dot = core.dot; tokens = core.tokens }

-- the item has this core, and one of its lookaheads
abbrev pub IsOfCore : CoreSet → ItemOf → Type 0
IsOfCore core x = (core.prod ≡ x.prod) × (core.dot ≡ x.dot) × IsTrue (has core.tokens x.token)

-- the item is one of the items of the cores in the list
abbrev pub IsAmong : List CoreSet → ItemOf → Type 0
IsAmong cores x = (core : CoreSet) × Contains cores core × IsOfCore core x

-- a core of the grammar, with room for each token and for the dummy lookahead as lookaheads
pub record IsCoreOf (g : Grammar) (core : CoreSet) : Type 0 where
  pub prod : core.prod < prods_len g
  pub dot : core.dot ≤ prod_len g core.prod
  pub wide : length core.tokens ≡ dummy_lookahead g + 1

-- closure: a core `A: v . B w` with lookahead a brings rule B, with the lookaheads First(w, a)
abbrev pub Brings : Grammar → CoreSet → ℕ → ℕ → Type 0
Brings g core r t = (w : List GrammarSymbol) × (drop core.dot (symbols_of g core.prod) ≡ Nonterminal r ∷ w) × IsFirstBefore g core.tokens w t

-- a core of the list brings rule r with lookahead t
abbrev pub AreBringing : Grammar → List CoreSet → ℕ → ℕ → Type 0
AreBringing g cores r t = (core : CoreSet) × Contains cores core × Brings g core r t

-- an item that the closure adds for rule r: its dot is at the start, its production is one of r, and its lookahead is in the set
abbrev pub IsOfRule : Grammar → ℕ → List Bool → ItemOf → Type 0
IsOfRule g r tokens x = (x.dot ≡ 0) × (x.prod < prods_len g) × (rule_of g x.prod ≡ r) × IsTrue (has tokens x.token)

-- an item that the closure adds: its dot is at the start, and its lookahead is in the set of its production's rule
abbrev pub IsOfRows : Grammar → List (List Bool) → ItemOf → Type 0
IsOfRows g rows x = (x.dot ≡ 0) × (x.prod < prods_len g) × HasIn rows (rule_of g x.prod) x.token
