-- Chains of reductions under one lookahead, and how many reductions they allow. The top states of a stack, from one of them
-- upwards, reduce without reading the states below, until a production has at least as many symbols as there are such states:
-- that reduction drops the lowest of them, too. A chain begins with one state, or with one state and a goto of it above, and
-- the reduction that drops that first state is the chain's last. So the chains of a table depend on its states alone, and
-- their length bounds the reductions of any run under one lookahead.
use Rattle.std.specs.Prelude.{◌≡◌, ◌<◌, ◌≤◌, ◌+◌, ◌*◌, ◌⊎◌, ℕ, zero, suc, List, [], ◌∷◌, length, Some}
use Rattle.lrpar_grammar.specs.Grammar.{Grammar, GrammarSymbol, prod_len}
use Rattle.lrpar_table_stacks.specs.Path.{IsPath}
use Rattle.lrpar_table_stacks.specs.Reduction.{Reduces, ReducesBy, top_action}
use Rattle.lrpar_table_rows.specs.Table.{Table, ReduceBy, IsClosed, goto_of, states_len}

-- a chain of state s begins with s alone, or with s and a goto of s above it
abbrev pub IsChainStart : Table → ℕ → List ℕ → Type 0
IsChainStart table s st = (st ≡ s ∷ []) ⊎ ((r next : ℕ) × (goto_of table s r ≡ Some next) × (st ≡ s ∷ next ∷ []))

-- at token t the top reduces by a production that has at least as many symbols as there are states
abbrev pub DropsAll : Grammar → Table → ℕ → List ℕ → Type 0
DropsAll g table t st = (p : ℕ) × (top_action table t st ≡ ReduceBy p) × (length st ≤ prod_len g p)

-- at token t a chain goes on from these states by at least n reductions; a reduction that drops all states is the last
abbrev pub HasReductions : Grammar → Table → ℕ → List ℕ → ℕ → Type 0
HasReductions g table t st zero = Unit {0}
HasReductions g table t st (suc n) =
    ((p : ℕ) × (next : List ℕ) × Reduces g table t st p next × HasReductions g table t next n) ⊎ (DropsAll g table t st × (n ≡ 0))

-- a chain that begins with state s makes more than `cap` reductions at token t
abbrev pub IsLongChain : Grammar → Table → ℕ → ℕ → ℕ → Type 0
IsLongChain g table cap s t = (st : List ℕ) × IsChainStart table s st × HasReductions g table t st (cap + 1)

-- among the tokens below `end`, `found` is the first at which the chain from these states makes more than `cap` reductions; if
-- `found` is `end`, there is none
pub record IsShortUntil (g : Grammar) (table : Table) (cap : ℕ) (st : List ℕ) (end found : ℕ) : Type 0 where
  pub within : found ≤ end
  pub long : found < end → HasReductions g table found st (cap + 1)
  pub short : (t : ℕ) → t < found → ¬ (HasReductions g table t st (cap + 1))

-- no chain makes more than `cap` reductions, of any state and at any token
abbrev pub AreChainsShort : Grammar → Table → ℕ → Type 0
AreChainsShort g table cap = (s t : ℕ) → s < states_len table → t < table.tokens → ¬ (IsLongChain g table cap s t)

-- a bound of the reductions under one lookahead, from a stack of this height
abbrev pub most_reductions : ℕ → ℕ → ℕ
most_reductions cap height = cap * height

-- a bound of the productions in a tree, by the number of its leaves and the number of errors of the parse
abbrev pub most_productions : ℕ → ℕ → ℕ → ℕ
most_productions cap leaves errors = cap * (cap + 3) * (leaves + errors + 1)

-- At each token a stack makes at most `cap` reductions for each of its states; and at most `cap` for each state that it
-- loses by them, and for `cap + 2` more.
abbrev pub IsBounded : Grammar → Table → ℕ → Type 0
IsBounded g table cap =
    (symbols : List GrammarSymbol) (st : List ℕ) (t : ℕ) (prods after : List ℕ) → IsPath table symbols st → t < table.tokens
    → ReducesBy g table t st prods after
    → (length prods ≤ most_reductions cap (length st))
    × (length prods + most_reductions cap (length after) ≤ most_reductions cap (length st + cap + 2))

-- over a table whose chains are short, reductions are bounded
abbrev pub BoundsReductions : Type 0
BoundsReductions = (g : Grammar) (table : Table) (cap : ℕ) → IsClosed table → AreChainsShort g table cap → IsBounded g table cap
