-- The items that values of code represent, by the numbers of their indexes.
use Rattle.std.specs.Prelude.{◌<◌, ◌↔◌, ℕ, List, map}
use Rattle.std.specs.List.{Contains}
use Rattle.std.specs.declared.vec.Vec.{Vec}
use Rattle.lrpar_grammar_places.specs.declared.span.PIdx.{PIdx}
use Rattle.lrpar_grammar_places.specs.declared.span.TIdx.{TIdx}
use Rattle.lrpar_table_rows.specs.Graph.{Graph, ItemOf, item_at}

-- an LR(1) item: the production, the dot and the lookahead
abbrev pub item_of : {S : Type 0} → (S → ℕ) → PIdx S × ℕ × TIdx S → ItemOf
item_of index x = item_at (index x.0.0) x.1 (index x.2.0)

-- an LR(0) core: the production and the dot
abbrev pub core_of : {S : Type 0} → (S → ℕ) → PIdx S × ℕ → ℕ × ℕ
core_of index x = (index x.0.0, x.1)

-- the items of a row; Z is the allocator of the Vec
abbrev pub row_of : {S Z : Type 0} → (S → ℕ) → Vec (PIdx S × ℕ × TIdx S) Z → List ItemOf
row_of index row = map (item_of index) row.items

-- the state graph with the items of each row
abbrev pub graph_of_rows : {S Z Y : Type 0} → (S → ℕ) → Vec (Vec (PIdx S × ℕ × TIdx S) Z) Y → Graph
graph_of_rows index rows = map (row_of index) rows.items

-- these are the cores of the items, and no others
abbrev pub AreCoresOf : {S : Type 0} → List (PIdx S × ℕ × TIdx S) → List (PIdx S × ℕ) → Type 0
AreCoresOf {S} items cores = (p : PIdx S) (k : ℕ) → Contains cores (p, k) ↔ ((t : TIdx S) × Contains items (p, k, t))

-- these are the cores whose dot isn't at the start, those of kernel items, and no others
abbrev pub AreBegunOf : {S : Type 0} → List (PIdx S × ℕ) → List (PIdx S × ℕ) → Type 0
AreBegunOf {S} cores begun = (p : PIdx S) (k : ℕ) → Contains begun (p, k) ↔ (Contains cores (p, k) × (0 < k))
