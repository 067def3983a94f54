-- The items of cores one by one; and the reductions and the accept that complete items call for at a token.
use Rattle.std.specs.Prelude.{◌≡◌, ◌==◌, ◌&&◌, ℕ, Bool, List, Some, filter, map, not, slice_get}
use Rattle.std.specs.List.{flat_map, list_any, range_with_len}
use Rattle.std.specs.declared.vec.Vec.{Vec}
use Rattle.lrpar_grammar_places.specs.declared.span.PIdx.{PIdx}
use Rattle.lrpar_grammar_places.specs.declared.span.TIdx.{TIdx}
use Rattle.lrpar_table_rows.specs.Graph.{ItemOf, item_at}
use Rattle.lrpar_grammar.specs.Tokens.{has}
use Rattle.lrpar_table_items.specs.Cores.{CoreSet}
use Rattle.lrpar_table_items.specs.declared.cores.CoreItems.{CoreItems}

-- the items of one core, their lookaheads ascending
abbrev pub items_of_core : ℕ → CoreSet → List ItemOf
items_of_core tokens core = map (item_at core.prod core.dot) (filter (has core.tokens) (range_with_len 0 tokens))

-- the items of all cores
abbrev pub items_of_cores : ℕ → List CoreSet → List ItemOf
items_of_cores tokens cores = flat_map (items_of_core tokens) cores

-- the lookaheads of a core, ascending
abbrev pub AreLookaheads : {S : Type 0} → (S → ℕ) → ℕ → CoreItems S → List (TIdx S) → Type 0
AreLookaheads index len core tokens = map (λ token. index token.0) tokens ≡ filter (has core.tokens) (range_with_len 0 len)

-- each row has the lookaheads of the core at its place
abbrev pub AreRowsOf : {S Z : Type 0} → (S → ℕ) → ℕ → List (CoreItems S) → List (PIdx S × ℕ × Vec (TIdx S) Z) → Type 0
AreRowsOf {S} {Z} index len cores rows =
    (place : ℕ) (core : CoreItems S) (row : PIdx S × ℕ × Vec (TIdx S) Z) → slice_get cores place ≡ Some core → slice_get rows place ≡ Some row
    → AreLookaheads index len core row.2.items

-- the reductions at token t before conflict resolution: the productions of the complete cores that have t as lookahead, without the
-- start production
abbrev pub prods_at : ℕ → List CoreSet → ℕ → List ℕ
prods_at start complete t = map (λ core. core.prod) (filter (λ core. not (core.prod == start) && has core.tokens t) complete)

-- whether a complete core of the start production has token t as lookahead
abbrev pub accepts_at : ℕ → List CoreSet → ℕ → Bool
accepts_at start complete t = list_any (λ core. (core.prod == start) && has core.tokens t) complete
