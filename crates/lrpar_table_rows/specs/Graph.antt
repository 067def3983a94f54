-- The sets of LR(1) items of the states of an LR automaton. An item is written as its production with a dot, and its lookahead:
-- `E: T . '+' E  {end}`.
use Rattle.std.specs.Prelude.{ℕ, List, [], length, slice_index_or}
use Rattle.std.specs.List.{Contains}
use Rattle.std.specs.Ordering.{nat_cmp, ordering_then}
use Rattle.std.specs.declared.cmp.Ordering.{Ordering}

-- an LR(1) item: the number of a production, how many of its symbols are before the dot, and the number of the lookahead
pub record ItemOf : Type 0 where
  pub prod : ℕ
  pub dot : ℕ
  pub token : ℕ

-- the items of each state
abbrev pub Graph : Type 0
Graph = List (List ItemOf)

-- the number of states
abbrev pub graph_len : Graph → ℕ
graph_len graph = length graph

-- the items of state s; out of range, none
abbrev pub items_of : Graph → ℕ → List ItemOf
items_of graph s = slice_index_or graph s []

-- production p with k symbols before the dot, and lookahead t
abbrev pub item_at : ℕ → ℕ → ℕ → ItemOf
item_at p k t = record { prod = p; dot = k; token = t }

-- production p with k symbols before the dot is the LR(0) core of one of the items
abbrev pub AreWithCore : List ItemOf → ℕ → ℕ → Type 0
AreWithCore items p k = (t : ℕ) × Contains items (item_at p k t)

-- state s has the item: production p with k symbols before the dot, and lookahead t
abbrev pub HasItem : Graph → ℕ → ℕ → ℕ → ℕ → Type 0
HasItem graph s p k t = Contains (items_of graph s) (item_at p k t)

-- state s has the LR(0) core: production p with k symbols before the dot, with some lookahead
abbrev pub HasCore : Graph → ℕ → ℕ → ℕ → Type 0
HasCore graph s p k = AreWithCore (items_of graph s) p k

-- items are ordered by production, then by dot, then by lookahead
abbrev pub item_cmp : ItemOf → ItemOf → Ordering
item_cmp a b = ordering_then (ordering_then (nat_cmp a.prod b.prod) (nat_cmp a.dot b.dot)) (nat_cmp a.token b.token)

-- cores are ordered by production, then by dot
abbrev pub core_cmp : ℕ × ℕ → ℕ × ℕ → Ordering
core_cmp a b = ordering_then (nat_cmp a.0 b.0) (nat_cmp a.1 b.1)
