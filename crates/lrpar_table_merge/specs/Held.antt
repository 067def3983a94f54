-- The items that states hold: what is propagated to them from the start, along transitions.
use Rattle.std.specs.Prelude.{◌≡◌, ◌+◌, ℕ, List, [], Option, Some, None, slice_get, slice_index_or}
use Rattle.lrpar_grammar.specs.Grammar.{Grammar, GrammarSymbol, Nonterminal, Terminal, symbols_of}
use Rattle.lrpar_table_rows.specs.Graph.{ItemOf, item_at}
use Rattle.lrpar_table_items.specs.ItemSets.{Adds, IsStartItem}

-- The items that the states hold, by their transitions: the least sets that have the start item in state 0; that are closed; and, where
-- a transition goes from s by X to n, have the advanced items of s by X in n
pub data IsHeld (g : Grammar) (goes : ℕ → GrammarSymbol → ℕ → Type 0) : ℕ → ItemOf → Type 0 where
  Starts : (x : ItemOf) → IsStartItem g x → IsHeld g goes 0 x
  Closes : (s : ℕ) (x y : ItemOf) → IsHeld g goes s x → Adds g x y → IsHeld g goes s y
  Steps : (s n : ℕ) (X : GrammarSymbol) (x : ItemOf) → goes s X n → IsHeld g goes s x → slice_get (symbols_of g x.prod) x.dot ≡ Some X
      → IsHeld g goes n (item_at x.prod (x.dot + 1) x.token)

-- the transitions of a state: the next state by each rule and by each token, if there is one
pub record TransitionsOf : Type 0 where
  pub rules : List (Option ℕ)
  pub tokens : List (Option ℕ)

-- the next state by the symbol
abbrev pub next_of : TransitionsOf → GrammarSymbol → Option ℕ
next_of transitions (Nonterminal r) = slice_index_or transitions.rules r None
next_of transitions (Terminal t) = slice_index_or transitions.tokens t None

-- the transitions of state s; out of range, none
abbrev pub transitions_at : List TransitionsOf → ℕ → TransitionsOf
transitions_at all s = slice_index_or all s (record { rules = []; tokens = [] })

-- state s goes by the symbol to state n
abbrev pub GoesBy : List TransitionsOf → ℕ → GrammarSymbol → ℕ → Type 0
GoesBy all s symbol n = next_of (transitions_at all s) symbol ≡ Some n
