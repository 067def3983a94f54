-- Item sets and state graphs by the indexes of code: index turns those into numbers.
use Rattle.std.specs.Prelude.{◌≡◌, ◌<◌, ◌↔◌, ℕ, List, map}
use Rattle.std.specs.List.{AllZip, Contains}
use Rattle.std.specs.List.Sorted.{IsStrictlySortedBy}
use Rattle.std.specs.declared.vec.Vec.{Vec}
use Rattle.lrpar_grammar_places.specs.declared.span.PIdx.{PIdx}
use Rattle.lrpar_grammar_places.specs.declared.span.StIdx.{StIdx}
use Rattle.lrpar_grammar_places.specs.declared.span.TIdx.{TIdx}
use Rattle.lrpar_table_rows.specs.Ascending.{HaveSame}
use Rattle.lrpar_table_rows.specs.Graph.{AreWithCore, Graph, HasCore, HasItem, ItemOf, core_cmp, item_at, item_cmp, items_of}
use Rattle.lrpar_table_rows.specs.PlainItems.{core_of, graph_of_rows, row_of}
use Rattle.lrpar_table_rows.specs.Runs.{set_of_rows}

-- the set has the items of the row, and no others
abbrev pub HasItemsOf : {S Z : Type 0} → (S → ℕ) → Vec (PIdx S × ℕ × TIdx S) Z → List ItemOf → Type 0
HasItemsOf index row set = HaveSame set (row_of index row)

-- the set has the items of the rows, each a core with lookaheads, and no others
abbrev pub HasItemsOfRows : {S Z : Type 0} → (S → ℕ) → List (PIdx S × ℕ × Vec (TIdx S) Z) → List ItemOf → Type 0
HasItemsOfRows index rows set = HaveSame set (set_of_rows index rows)

-- each set has the items of its row, and no others
abbrev pub HaveItemsOf : {S Z Y X : Type 0} → (S → ℕ) → Vec (Vec (PIdx S × ℕ × TIdx S) Z) Y → Vec (List ItemOf) X → Type 0
HaveItemsOf index rows sets = AllZip HaveSame sets.items (graph_of_rows index rows)

-- the graph is made of the rows: each state has the items of its row, and no others
abbrev pub IsMadeOf : {S Z Y : Type 0} → (S → ℕ) → Vec (Vec (PIdx S × ℕ × TIdx S) Z) Y → Graph → Type 0
IsMadeOf index rows graph = (s p k t : ℕ) → HasItem graph s p k t ↔ HasItem (graph_of_rows index rows) s p k t

-- these are the items of the state
abbrev pub AreItemsAt : {S : Type 0} → (S → ℕ) → Graph → StIdx S → List ItemOf → Type 0
AreItemsAt index graph s items = items ≡ items_of graph (index s.0)

-- the item is in the set
abbrev pub HasItemIn : {S : Type 0} → (S → ℕ) → List ItemOf → PIdx S → ℕ → TIdx S → Type 0
HasItemIn index items p k t = Contains items (item_at (index p.0) k (index t.0))

-- the item is one of the state
abbrev pub HasItemAt : {S : Type 0} → (S → ℕ) → Graph → StIdx S → PIdx S → ℕ → TIdx S → Type 0
HasItemAt index graph s p k t = HasItem graph (index s.0) (index p.0) k (index t.0)

-- an item of the set has the core
abbrev pub HasCoreIn : {S : Type 0} → (S → ℕ) → List ItemOf → PIdx S → ℕ → Type 0
HasCoreIn index items p k = AreWithCore items (index p.0) k

-- an item of the state has the core
abbrev pub HasCoreAt : {S : Type 0} → (S → ℕ) → Graph → StIdx S → PIdx S → ℕ → Type 0
HasCoreAt index graph s p k = HasCore graph (index s.0) (index p.0) k

-- these are the lookaheads of the set's items with this core
abbrev pub AreLookaheadsIn : {S : Type 0} → (S → ℕ) → List ItemOf → PIdx S → ℕ → List (TIdx S) → Type 0
AreLookaheadsIn index items p k tokens = (t : ℕ) → Contains (map (λ token. index token.0) tokens) t ↔ Contains items (item_at (index p.0) k t)

-- these are the lookaheads of the state's items with this core
abbrev pub AreLookaheadsAt : {S : Type 0} → (S → ℕ) → Graph → StIdx S → PIdx S → ℕ → List (TIdx S) → Type 0
AreLookaheadsAt index graph s p k tokens = AreLookaheadsIn index (items_of graph (index s.0)) p k tokens

-- these are the cores of the set's items
abbrev pub AreCoresIn : {S : Type 0} → (S → ℕ) → List ItemOf → List (PIdx S × ℕ) → Type 0
AreCoresIn index items cores = (p k : ℕ) → AreWithCore items p k ↔ Contains (map (core_of index) cores) (p, k)

-- these are the cores of the state's items
abbrev pub AreCoresAt : {S : Type 0} → (S → ℕ) → Graph → StIdx S → List (PIdx S × ℕ) → Type 0
AreCoresAt index graph s cores = AreCoresIn index (items_of graph (index s.0)) cores

-- these are the cores of the set's kernel items, those whose dot isn't at the start
abbrev pub AreKernelCoresIn : {S : Type 0} → (S → ℕ) → List ItemOf → List (PIdx S × ℕ) → Type 0
AreKernelCoresIn index items cores = (p k : ℕ) → (AreWithCore items p k × (0 < k)) ↔ Contains (map (core_of index) cores) (p, k)

-- these are the cores of the state's kernel items, those whose dot isn't at the start
abbrev pub AreKernelCoresAt : {S : Type 0} → (S → ℕ) → Graph → StIdx S → List (PIdx S × ℕ) → Type 0
AreKernelCoresAt index graph s cores = AreKernelCoresIn index (items_of graph (index s.0)) cores

-- the items ascend, each once
abbrev pub ItemsAscend : List ItemOf → Type 0
ItemsAscend items = IsStrictlySortedBy item_cmp items

-- the items of the state ascend, each once
abbrev pub ItemsAscendAt : {S : Type 0} → (S → ℕ) → Graph → StIdx S → Type 0
ItemsAscendAt index graph s = ItemsAscend (items_of graph (index s.0))

-- the cores ascend, each once
abbrev pub CoresAscend : {S : Type 0} → (S → ℕ) → List (PIdx S × ℕ) → Type 0
CoresAscend index cores = IsStrictlySortedBy core_cmp (map (core_of index) cores)
